-- Laws of the records of a kind, and of what is read off them: nodes and policies.
use Rattle.std.specs.Prelude.{◌≡◌, Bool, true, false, cond, ◌&&◌, ◌||◌, [], ◌∷◌, ◌++◌, eqb, get_or}
use Rattle.std.proofs.Math.Path.{refl, ap, ap₂}
use Rattle.std.proofs.Common.{sym, ◌∙◌, arith, eqb-true, ne_eqb, length-append}
use Prim.Native.Nat.{ℕ, zero, suc, ◌+◌, ◌-◌, ◌<◌, max}
use Rattle.std.proofs.Math.ListN.{length, get_or-append}
use Rattle.std.proofs.lemmas.List.{get_or_at}
use Rattle.basics.specs.Lists.{keep, all}
use Rattle.format.specs.Record.{Rec, Net, at, kind, of_kind, same_rule, present, widths_of}
use Rattle.format.specs.Version.{version_of}
use Rattle.format.specs.Policy.{nodes_of, policy_count, longest_of, longest}
use Rattle.basics.specs.Laws.Lists.{keep_append, keep_keep, any_append}

-- a record is a rule, a node, a group
abbrev pub is_rule : Rec → Bool
is_rule r = eqb (kind r) 4

abbrev pub is_node : Rec → Bool
is_node r = eqb (kind r) 5

abbrev pub is_group_record : Rec → Bool
is_group_record r = eqb (kind r) 9

-- the kind of the last record
abbrev pub last_kind : Net → ℕ
last_kind net = kind (get_or net (length net - 1) [])

pub kinds-append : (k : ℕ) (xs ys : Net) → of_kind k (xs ++ ys) ≡ of_kind k xs ++ of_kind k ys
unfolding of_kind
kinds-append k = keep_append (λ r. eqb (kind r) k)

-- how many of a kind there are with one record more
pub kind_count : (k : ℕ) (xs : Net) (r : Rec) → length (of_kind k (xs ++ (r ∷ []))) ≡ length (of_kind k xs) + cond (eqb (kind r) k) 1 0
unfolding of_kind keep
kind_count k xs r = ap length (kinds-append k xs (r ∷ [])) ∙ length-append (of_kind k xs) (of_kind k (r ∷ [])) ∙ ap (λ (n : ℕ). length (of_kind k xs) + n) (go (eqb (kind r) k))
  where
    go : (b : Bool) → length {A = Rec} (cond b (r ∷ []) []) ≡ cond b 1 0
    go true = refl
    go false = refl

-- rules are of no other kind
pub rules_only : (k : ℕ) → (k ≡ 4 → ⊥) → (xs : Net) → all is_rule xs ≡ true → of_kind k xs ≡ []
unfolding of_kind keep all
rules_only k h [] e = refl
rules_only k h (r ∷ rs) e = go (is_rule r) refl e (rules_only k h rs)
  where
    go : (b : Bool) → is_rule r ≡ b → (b && all is_rule rs) ≡ true → (all is_rule rs ≡ true → of_kind k rs ≡ []) → of_kind k (r ∷ rs) ≡ []
    go true t e ih = rw (ne_eqb (kind r) k (λ q. h (sym q ∙ eqb-true (kind r) 4 t))) (ih e)
    go false t e ih = let z : ◌≡◌ {A = ℕ} 0 1 = cc in absurd (omega arith)

pub nodes_kind : (p : ℕ) (net : Net) → nodes_of p net ≡ keep (λ r. eqb (at r 1) p) (of_kind 5 net)
unfolding nodes_of of_kind
nodes_kind p net = sym (keep_keep (λ r. eqb (at r 1) p) is_node net)

policies_kind : (net : Net) → policy_count net ≡ policy_count (of_kind 5 net)
unfolding policy_count of_kind keep
policies_kind [] = refl
policies_kind (r ∷ rs) = go (is_node r) refl (policies_kind rs)
  where
    go : (b : Bool) → is_node r ≡ b → policy_count rs ≡ policy_count (of_kind 5 rs) → policy_count (r ∷ rs) ≡ policy_count (cond b (r ∷ of_kind 5 rs) (of_kind 5 rs))
    go true t ih = rw (t, ih)
    go false t ih = rw (t, ih)

-- two networks with the same nodes have the same policies
module _ (x y : Net) (same : of_kind 5 x ≡ of_kind 5 y) where
  pub nodes_alike : (p : ℕ) → nodes_of p x ≡ nodes_of p y
  nodes_alike p = nodes_kind p x ∙ ap (keep (λ r. eqb (at r 1) p)) same ∙ sym (nodes_kind p y)

  pub policies_alike : policy_count x ≡ policy_count y
  policies_alike = policies_kind x ∙ ap policy_count same ∙ sym (policies_kind y)

  longest_of_alike : (k : ℕ) → longest_of k x ≡ longest_of k y
  unfolding longest_of
  longest_of_alike zero = refl
  longest_of_alike (suc k) = ap₂ max (ap length (nodes_alike k)) (longest_of_alike k)

  pub longest_alike : longest x ≡ longest y
  unfolding longest
  longest_alike = ap (λ (k : ℕ). longest_of k x) policies_alike ∙ longest_of_alike (policy_count y)

pub present-append : (q : Rec) (xs ys : Net) → present q (xs ++ ys) ≡ (present q xs || present q ys)
unfolding present
present-append q = any_append (same_rule q)

-- the widths and the version stand in the first record
module _ (x y : Net) (first : get_or x 0 [] ≡ get_or y 0 []) where
  pub widths_first : widths_of x ≡ widths_of y
  unfolding widths_of
  widths_first = rw first

  pub version_first : version_of x ≡ version_of y
  unfolding version_of
  version_first = rw first

-- whatever follows
pub widths-append : (xs ys : Net) → 0 < length xs → widths_of (xs ++ ys) ≡ widths_of xs
widths-append xs ys h = widths_first (xs ++ ys) xs (get_or-append xs ys [] 0 h)

pub last_kind_lem : (xs : Net) (r : Rec) → last_kind (xs ++ (r ∷ [])) ≡ kind r
last_kind_lem xs r =
    let e : length xs ≡ length (xs ++ (r ∷ [])) - 1 = omega (arith, length-append xs (r ∷ [])) in
    ap kind (get_or_at xs r [] [] (length (xs ++ (r ∷ [])) - 1) e)
