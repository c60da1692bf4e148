-- The outcome of a command, case by case.
use Rattle.format.specs.Record.{Rec}
use Rattle.refusals.specs.Refusal.{Refusal}
use Rattle.judgement.specs.Verdict.{Verdict}
use Rattle.effect.specs.Apply.{would_leave}
use Rattle.book.specs.Answer.{CommandAnswer}
use Rattle.book.specs.Check.{unless}
use Rattle.book.specs.Reference.{Installed, network, Outcome, unchanged, judged}

-- by whether it is refused and by its verdict
abbrev pub outcome_by : Installed → Rec → Refusal → Verdict → Outcome
outcome_by i c r v = unless r (λ number place. unchanged i (CommandAnswer.refused number place)) (judged i (would_leave c (network i)) v)
