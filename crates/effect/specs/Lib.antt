-- What a command changes.
pub mod Apply
pub mod EffectTable
pub mod NeverStuck
pub mod Laws
