-- The numbers of packet states and the ordinary ports, at the widths of K and at others with N = 10, written by hand: by computation.
use Rattle.std.specs.Prelude.{◌≡◌, refl, [], ◌∷◌, map, ℕ}
use Rattle.basics.specs.Lists.{keep, from}
use Rattle.widths.specs.Widths.{states, plane_bytes}
use Rattle.format.specs.State.{state, header_of, port_of, switch_of, direction_of, ordinary}
use Rattle.widths.specs.declared.Widths.{Widths}

-- H 1, P 2, W 1
abbrev K's : Widths
K's = record { h = 1; p = 2; w = 1 }

-- H 3, P 4, W 2
abbrev ten : Widths
ten = record { h = 3; p = 4; w = 2 }

-- direction, switch, port and header of a state
parts : Widths → ℕ → ℕ × ℕ × ℕ × ℕ
parts w s = (direction_of w s, switch_of w s, port_of w s, header_of w s)

-- the states of document 01's starred case, by direction, switch, port and header: 2 and 10 arrive, 20 and 28 depart
numbers_of_K : state K's 0 0 1 0 ∷ state K's 0 1 1 0 ∷ state K's 1 0 2 0 ∷ state K's 1 1 2 0 ∷ state K's 1 1 3 1 ∷ [] ≡ 2 ∷ 10 ∷ 20 ∷ 28 ∷ 31 ∷ []
unfolding state
numbers_of_K = refl

-- and back
parts_of_K : map (parts K's) (2 ∷ 10 ∷ 20 ∷ 28 ∷ 31 ∷ []) ≡ (0, 0, 1, 0) ∷ (0, 1, 1, 0) ∷ (1, 0, 2, 0) ∷ (1, 1, 2, 0) ∷ (1, 1, 3, 1) ∷ []
unfolding parts direction_of switch_of port_of header_of
parts_of_K = refl

-- a header has weight 1, a port 8, a switch 128 and the direction 512
numbers_of_ten : state ten 0 0 0 5 ∷ state ten 0 0 1 0 ∷ state ten 0 1 0 0 ∷ state ten 1 0 0 0 ∷ state ten 0 2 11 6 ∷ state ten 1 3 15 7 ∷ [] ≡ 5 ∷ 8 ∷ 128 ∷ 512 ∷ 350 ∷ 1023 ∷ []
unfolding state
numbers_of_ten = refl

-- and back
parts_of_ten : map (parts ten) (5 ∷ 8 ∷ 128 ∷ 512 ∷ 350 ∷ 1023 ∷ []) ≡ (0, 0, 0, 5) ∷ (0, 0, 1, 0) ∷ (0, 1, 0, 0) ∷ (1, 0, 0, 0) ∷ (0, 2, 11, 6) ∷ (1, 3, 15, 7) ∷ []
unfolding parts direction_of switch_of port_of header_of
parts_of_ten = refl

-- how many states there are, and the bytes of a plane
sizes : states K's ∷ plane_bytes K's ∷ states ten ∷ plane_bytes ten ∷ [] ≡ 32 ∷ 128 ∷ 1024 ∷ 131072 ∷ []
unfolding states plane_bytes
sizes = refl

-- all ports but 0 and 2^P − 1 are ordinary
ordinary_ports : keep (ordinary K's) (from 0 5) ∷ keep (ordinary ten) (from 0 18) ∷ [] ≡ from 1 2 ∷ from 1 14 ∷ []
unfolding keep from ordinary
ordinary_ports = refl
