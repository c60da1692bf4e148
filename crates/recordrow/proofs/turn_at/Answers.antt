use Rattle.std.proofs.Common.{◌≡◌, ◌⊎◌, inl, inr, [], ◌∷◌, ◌++◌, ℕ, zero, suc, ◌+◌, ◌<◌, refl, sym, subst, ◌∙◌, arith, length, Result, Ok, Err, OnOk}
use Rattle.std.proofs.lemmas.Result.{on_ok_weaker}
use Rattle.std.proofs.Math.Option.{some}
use Rattle.refusals.specs.Refusal.{record_row}
use Rattle.refusals.specs.declared.Row.{Row}
use Rattle.recordrow.specs.declared.Seen.{Seen}
use Rattle.format.specs.Record.{Net, kind, record_kind, records}
use Rattle.format.specs.Laws.Records.{records_more}
use Rattle.format.specs.declared.kinds.RecordKind.{RecordKind}
use Rattle.format.specs.declared.kinds.RecordKind.TheVariants.{Widths, Link, Miss, Rule, Node, Group, Unknown}
use Rattle.rows.specs.Laws.Noted.{keys_other, points_other}
use Rattle.recordrow.specs.Scan.{NotedOf}
use Rattle.recordrow.specs.Turn.{before_turn, at_turn, after_turn}
use Rattle.recordrow.specs.declared.Notes.{Notes}
use Rattle.recordrow.specs.declared.turn.Turn.{Turn}
use Rattle.recordrow.specs.Laws.RecordRows.{kind-zero, kind_above}
use Rattle.recordrow.specs.Laws.Scan.{noted_other}
use Rattle.recordrow.proofs.turn_at.Goals as goal

-- the kind bytes of a kind
abbrev named : RecordKind → ℕ → Type 0
named Widths b = b ≡ 1
named Link b = b ≡ 2
named Miss b = b ≡ 3
named Rule b = b ≡ 4
named Node b = b ≡ 5
named Group b = b ≡ 9
named Unknown b = (b ≡ 0) ⊎ ((5 < b) × (b ≡ 9 → ⊥))

named_by : (b : ℕ) → named (record_kind b) b
unfolding record_kind
named_by zero = inl refl
named_by (suc zero) = refl
named_by (suc (suc zero)) = refl
named_by (suc (suc (suc zero))) = refl
named_by (suc (suc (suc (suc zero)))) = refl
named_by (suc (suc (suc (suc (suc zero))))) = refl
named_by (suc (suc (suc (suc (suc (suc zero)))))) = inr (omega arith, λ e. omega arith)
named_by (suc (suc (suc (suc (suc (suc (suc zero))))))) = inr (omega arith, λ e. omega arith)
named_by (suc (suc (suc (suc (suc (suc (suc (suc zero)))))))) = inr (omega arith, λ e. omega arith)
named_by (suc (suc (suc (suc (suc (suc (suc (suc (suc zero))))))))) = refl
named_by (suc (suc (suc (suc (suc (suc (suc (suc (suc (suc b)))))))))) = inr (omega arith, λ e. omega arith)

-- the kind byte of a turn's record, by the kind that the code finds
byte : (t : Turn) (k : RecordKind) → k ≡ record_kind (kind (at_turn t)) → named k (kind (at_turn t))
byte t k e = subst (λ (x : RecordKind). named x (kind (at_turn t))) (sym e) (named_by (kind (at_turn t)))

-- what is noted of the records up to and with that of the turn
noted : (t : Turn) (notes : Notes) → NotedOf (before_turn t ++ (at_turn t ∷ [])) notes → NotedOf (records (t.at.i + 1) t.at.store.now) notes
noted t notes h = subst (λ (net : Net). NotedOf net notes) (sym (records_more t.at.store.now t.at.i)) h

-- where it is neither a link nor a rule
unnoted : (t : Turn) (notes : Notes) (answer : Result Seen Row) (k : ℕ) → NotedOf (before_turn t) notes → kind (at_turn t) ≡ k → (k ≡ 2 → ⊥) → (k ≡ 4 → ⊥)
    → OnOk answer (NotedOf (records (t.at.i + 1) t.at.store.now) notes)
unnoted t notes (Err row) k N e l r = tt
unnoted t notes (Ok s) k N e l r = noted t notes (noted_other _ notes _ N (λ q. l (sym e ∙ q)) (λ q. r (sym e ∙ q)))

-- a byte that names no kind
nameless : (t : Turn) → named Unknown (kind (at_turn t)) → record_row (before_turn t) (at_turn t) (after_turn t) ≡ some (3, length (before_turn t))
nameless t (inl e) = kind-zero _ _ _ e
nameless t (inr h) = kind_above _ _ _ h.0 h.1

pub widths-requires : goal.widths-requires
widths-requires c = byte c.args.turn.now Widths (rw c.record.ensures.is at (sym c.in-Widths.is ∙ c.from.ensures))

pub link-requires : goal.link-requires
link-requires c = (byte c.args.turn.now Link (rw c.record.ensures.is at (sym c.in-Link.is ∙ c.from.ensures)), c.requires.points)

pub miss-requires : goal.miss-requires
miss-requires c = byte c.args.turn.now Miss (rw c.record.ensures.is at (sym c.in-Miss.is ∙ c.from.ensures))

pub rule-requires : goal.rule-requires
rule-requires c = (byte c.args.turn.now Rule (rw c.record.ensures.is at (sym c.in-Rule.is ∙ c.from.ensures)), c.requires.keys)

pub node-requires : goal.node-requires
node-requires c = byte c.args.turn.now Node (rw c.record.ensures.is at (sym c.in-Node.is ∙ c.from.ensures))

pub group-requires : goal.group-requires
group-requires c = byte c.args.turn.now Group (rw c.record.ensures.is at (sym c.in-Group.is ∙ c.from.ensures))

pub returns-in-Widths : goal.returns-in-Widths
returns-in-Widths c =
    let k = byte c.args.turn.now Widths (rw c.record.ensures.is at (sym c.in-Widths.is ∙ c.from.ensures)) in
    (c.widths.ensures, unnoted c.args.turn.now _ c.widths.result 1 c.requires k (λ q. omega (arith, q)) (λ q. omega (arith, q)))

pub returns-in-Link : goal.returns-in-Link
returns-in-Link c =
    let t = c.args.turn.now in
    let k = byte t Link (rw c.record.ensures.is at (sym c.in-Link.is ∙ c.from.ensures)) in
    let h = c.link.ensures in
    (h.0, on_ok_weaker c.link.result (λ P. noted t _ (record { keys = keys_other _ _ _ c.requires.keys (λ q. omega (arith, k, q)); points = P })) h.1)

pub returns-in-Miss : goal.returns-in-Miss
returns-in-Miss c =
    let k = byte c.args.turn.now Miss (rw c.record.ensures.is at (sym c.in-Miss.is ∙ c.from.ensures)) in
    (c.miss.ensures, unnoted c.args.turn.now _ c.miss.result 3 c.requires k (λ q. omega (arith, q)) (λ q. omega (arith, q)))

pub returns-in-Rule : goal.returns-in-Rule
returns-in-Rule c =
    let t = c.args.turn.now in
    let k = byte t Rule (rw c.record.ensures.is at (sym c.in-Rule.is ∙ c.from.ensures)) in
    let h = c.rule.ensures in
    (h.0, on_ok_weaker c.rule.result (λ K. noted t _ (record { keys = K; points = points_other _ _ _ c.requires.points (λ q. omega (arith, k, q)) })) h.1)

pub returns-in-Node : goal.returns-in-Node
returns-in-Node c =
    let k = byte c.args.turn.now Node (rw c.record.ensures.is at (sym c.in-Node.is ∙ c.from.ensures)) in
    (c.node.ensures, unnoted c.args.turn.now _ c.node.result 5 c.requires k (λ q. omega (arith, q)) (λ q. omega (arith, q)))

pub returns-in-Group : goal.returns-in-Group
returns-in-Group c =
    let k = byte c.args.turn.now Group (rw c.record.ensures.is at (sym c.in-Group.is ∙ c.from.ensures)) in
    (c.group.ensures, unnoted c.args.turn.now _ c.group.result 9 c.requires k (λ q. omega (arith, q)) (λ q. omega (arith, q)))

pub returns-in-Unknown : goal.returns-in-Unknown
returns-in-Unknown c = (nameless c.args.turn.now (byte c.args.turn.now Unknown (rw c.record.ensures.is at (sym c.in-Unknown.is ∙ c.from.ensures))), tt)
