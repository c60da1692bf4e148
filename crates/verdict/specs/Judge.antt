-- What judging a network asks of the store and of the work buffer, and what it leaves.
use Rattle.std.specs.Prelude.{◌≡◌, Bool, true, Option, None, Some, List, ◌++◌, ℕ, ◌+◌, ◌*◌, ◌≤◌, ◌<◌, length, get_or, drop, replicate}
use Rattle.format.specs.Record.{Net, records}
use Rattle.format.specs.Policy.{longest}
use Rattle.refusals.specs.Rows.{work_needed}
use Rattle.scan.specs.Stored.{CleanStore}
use Rattle.scan.specs.declared.Layout.{Layout}
use Rattle.judgement.specs.declared.Violation.{Violation}
use Rattle.judgement.specs.Verdict.{Verdict, holds, violated, Is}
use Rattle.judgement.specs.Judgement.{verdict}
use Rattle.judgement.specs.Laws.Same.{SameModel}
use Rattle.planes.specs.Plane.{plane_size}
use Rattle.lines.specs.Shapes.{Outside}
use Rattle.forms.specs.Forms.{Reached}
use Rattle.nodes.specs.Node.{plane_at, model_at}
use Rattle.judgement.specs.Model.{model_of}

-- the verdict that an answer gives: the network holds, or its lowest broken policy and the lowest state that breaks it
abbrev pub verdict_of : Option Violation → Verdict
verdict_of None = holds
verdict_of (Some v) = violated v.policy v.state

-- the policy that record i of a store names
abbrev pub policy_at : List ℕ → ℕ → ℕ
policy_at store i = get_or store (i * 24 + 1) 0

-- of the records from start up to end, those up to stop name the policy that start names, and the next one does not
pub record Run (store : List ℕ) (start end stop : ℕ) : Type 0 where
  pub some : start < stop
  pub up_to : stop ≤ end
  pub same : (i : ℕ) → start ≤ i → i < stop → policy_at store i ≡ policy_at store start
  pub ends : stop < end → policy_at store stop ≡ policy_at store start → ⊥

-- the policies of a clean network are tested over its step plane, whose rows have so many bytes, and its row of external states;
-- the second plane is the closure of the step plane if that is said
pub record Testable (end : ℕ) (l : Layout) (bytes : ℕ) (store ext : List ℕ) (closed : Bool) (work : List ℕ) : Type 0 where
  pub clean : CleanStore end l store
  pub small : bytes ≤ 128
  pub room : plane_at bytes (longest (records end store)) ≤ length work
  pub model : SameModel (model_at bytes ext work) (model_of (records end store))
  pub reached : closed ≡ true → Reached bytes work

-- the second plane is the closure of the first if the answer says so; every byte outside of it is as before
pub record StepsClosed (pitch : ℕ) (before : List ℕ) (closed : Bool) (after : List ℕ) : Type 0 where
  pub len : length after ≡ length before
  pub reached : closed ≡ true → Reached pitch after
  pub rest : (m : ℕ) → Outside pitch (plane_size pitch) m → get_or after m 0 ≡ get_or before m 0

-- the answer is the verdict that is meant; every byte behind the planes of the longest policy is as before
pub record Searched (net : Net) (bytes : ℕ) (before : List ℕ) (r : Option Violation) (after : List ℕ) : Type 0 where
  pub len : length after ≡ length before
  pub meant : Is net (verdict_of r)
  pub behind : (m : ℕ) → plane_at bytes (longest net) ≤ m → get_or after m 0 ≡ get_or before m 0

-- a clean network, and a work buffer that is long enough
pub record Judgeable (end : ℕ) (l : Layout) (store work : List ℕ) : Type 0 where
  pub clean : CleanStore end l store
  pub room : work_needed (records end store) ≤ length work

-- the answer is the verdict on the network; the work that it needed is zero, and the rest as before
pub record Judges (net : Net) (before : List ℕ) (r : Option Violation) (after : List ℕ) : Type 0 where
  pub answer : verdict_of r ≡ verdict net
  pub work : after ≡ replicate (work_needed net) 0 ++ drop (work_needed net) before
