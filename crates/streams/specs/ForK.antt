-- The program's output for network K: document 01's own, and where its input ends early.
use Rattle.std.specs.Prelude.{◌≡◌, refl, [], ◌∷◌, ◌++◌, map, drop, replicate}
use Rattle.format.specs.Record.{flat}
use Rattle.format.specs.NetK.{record24, K, add_any, add_zero}
use Rattle.effect.specs.Apply.{would_leave}
use Rattle.series.specs.Starred.{computing}
use Rattle.streams.specs.Text.{bytes, places_from, places, decimal}
use Rattle.streams.specs.Line.{spaced, with_one, with_two, start_line, answer_line, end_short}
use Rattle.streams.specs.Input.{is_command_kind, is_command, network_of, commands_of, input_of, input, is_cut, command_met, too_many, short_start}
use Rattle.streams.specs.Output.{start_answer, answer_lines, last_line, after_start, started, output_of, output}

-- all that the program's output computes with
unfoldable pub printing : Unit {0}
unfolding computing bytes places_from places decimal spaced with_one with_two start_line answer_line end_short is_command_kind is_command network_of commands_of input_of input is_cut command_met too_many short_start start_answer answer_lines last_line after_start started output_of output
printing = tt

-- K, then its two adds: the whole output
pub for_k : output (flat (K ++ (add_any ∷ add_zero ∷ []))) ≡ bytes "start holds\n1 blocked 0 3\n2 forwarded 21\n"
unfolding printing
for_k = refl

-- nothing; a command first; K and the first byte of a command; K and the first byte of another record; and the same behind a start that is refused
pub early :
    map output ([] ∷ add_any ∷ (flat K ++ (6 ∷ [])) ∷ (flat K ++ (5 ∷ [])) ∷ (flat (drop 1 K) ++ (6 ∷ [])) ∷ (flat (drop 1 K) ++ (5 ∷ [])) ∷ [])
    ≡ bytes "start refused 1 0\n"
    ∷ bytes "start refused 1 0\n"
    ∷ bytes "start holds\nend short\n"
    ∷ bytes "end short\n"
    ∷ bytes "start refused 3 0\n"
    ∷ bytes "end short\n"
    ∷ []
unfolding printing
early = refl

-- what stands behind the start line, and what does not:
-- a start that is violated, and a command; K, a command, and records of the kinds 1 and 9 behind it, which are commands then; K with a group, which is no command, and the second add
pub kinds :
    map output
    (flat (would_leave add_any K ++ (add_zero ∷ []))
    ∷ flat (K ++ (add_zero ∷ record24 (1 ∷ []) ∷ record24 (9 ∷ []) ∷ add_any ∷ []))
    ∷ flat (K ++ (record24 (9 ∷ 0 ∷ 0 ∷ 0 ∷ 0 ∷ 0 ∷ 0 ∷ 0 ∷ 1 ∷ 0 ∷ 0 ∷ 1 ∷ 0 ∷ []) ∷ add_zero ∷ []))
    ∷ [])
    ≡ bytes "start violated 0 3\n"
    ∷ bytes "start holds\n1 forwarded 21\n2 refused 12 0\n3 refused 12 0\n4 blocked 0 3\n"
    ∷ bytes "start holds\n1 forwarded 22\n"
    ∷ []
unfolding printing
kinds = refl

-- 657 records are read, of which the 21st has no kind; a cut one behind them; a 658th, also with a cut one behind it
pub longest :
    map (λ rest. output (flat (K ++ replicate 637 (record24 [])) ++ rest)) ([] ∷ (0 ∷ []) ∷ replicate 24 0 ∷ replicate 25 0 ∷ [])
    ≡ bytes "start refused 3 20\n"
    ∷ bytes "end short\n"
    ∷ bytes "start refused 1 0\n"
    ∷ bytes "start refused 1 0\n"
    ∷ []
unfolding printing
longest = refl
