-- Laws of walks.
use Rattle.std.specs.Prelude.{ℕ, ◌<◌}
use Rattle.walks.specs.Walk.{Walk, one, more}

-- where a walk starts
pub start : {S : ℕ} {R : ℕ → ℕ → Type 0} {a b : ℕ} → Walk S R a b → a < S
start (one ha hb r) = ha
start (more ha r p) = ha

-- where a walk ends
pub end : {S : ℕ} {R : ℕ → ℕ → Type 0} {a b : ℕ} → Walk S R a b → b < S
end (one ha hb r) = hb
end (more ha r p) = end p

-- one walk after another
pub join : {S : ℕ} {R : ℕ → ℕ → Type 0} {a b c : ℕ} → Walk S R a b → Walk S R b c → Walk S R a c
join (one ha hb r) q = more ha r q
join (more ha r p) q = more ha r (join p q)

-- a walk over a relation that another contains
pub map_walk : {S : ℕ} {R Q : ℕ → ℕ → Type 0} → ((a b : ℕ) → a < S → b < S → R a b → Q a b) → {a b : ℕ} → Walk S R a b → Walk S Q a b
map_walk f (one {a} {b} ha hb r) = one ha hb (f a b ha hb r)
map_walk f (more {a} {b} ha r p) = more ha (f a b ha (start p) r) (map_walk f p)

-- a walk, backwards
pub walk_back : {S : ℕ} {R : ℕ → ℕ → Type 0} {a b : ℕ} → Walk S R a b → Walk S (λ i j. R j i) b a
walk_back (one ha hb r) = one hb ha r
walk_back (more ha r p) = join (walk_back p) (one (start p) ha r)
