-- Codes as numbers, as the header `wegbaro.h` tells them: the case in bits 0 and 1, the first number in bits 2 to 17, the second in bits 18 to 33, written by hand: by computation.
use Rattle.std.specs.Prelude.{◌≡◌, refl, List, [], ◌∷◌, map}
use Rattle.book.specs.Answer.{CheckAnswer, CommandAnswer}
use Rattle.trails.specs.Answer.{RouteAnswer}
use Rattle.codes.specs.Code.{check_code, command_code, route_code}
use Rattle.codes.specs.Decoded.{check_decoded, command_decoded, route_decoded}

-- answers of the check call
checks : List CheckAnswer
checks = CheckAnswer.holds ∷ CheckAnswer.violated 0 3 ∷ CheckAnswer.violated 7 1023 ∷ CheckAnswer.refused 1 0 ∷ CheckAnswer.refused 16 656 ∷ []

-- their codes, and back
check_codes : (map check_code checks ≡ 0 ∷ 786433 ∷ 268173341 ∷ 6 ∷ 171966530 ∷ []) × (map check_decoded (0 ∷ 786433 ∷ 268173341 ∷ 6 ∷ 171966530 ∷ []) ≡ checks)
unfolding checks check_decoded
check_codes = (refl, refl)

-- answers of the command call
commands : List CommandAnswer
commands = CommandAnswer.forwarded 21 ∷ CommandAnswer.forwarded 657 ∷ CommandAnswer.blocked 0 3 ∷ CommandAnswer.blocked 7 1023 ∷ CommandAnswer.refused 13 0 ∷ CommandAnswer.refused 9 17 ∷ []

-- their codes, and back
command_codes :
    (map command_code commands ≡ 84 ∷ 2628 ∷ 786433 ∷ 268173341 ∷ 54 ∷ 4456486 ∷ [])
    × (map command_decoded (84 ∷ 2628 ∷ 786433 ∷ 268173341 ∷ 54 ∷ 4456486 ∷ []) ≡ commands)
unfolding commands command_decoded
command_codes = (refl, refl)

-- answers of the route call
routes : List RouteAnswer
routes = RouteAnswer.found 4 ∷ RouteAnswer.found 1025 ∷ RouteAnswer.no_route ∷ RouteAnswer.refused 14 0 ∷ RouteAnswer.refused 3 20 ∷ []

-- their codes, and back
route_codes : (map route_code routes ≡ 16 ∷ 4100 ∷ 1 ∷ 58 ∷ 5242894 ∷ []) × (map route_decoded (16 ∷ 4100 ∷ 1 ∷ 58 ∷ 5242894 ∷ []) ≡ routes)
unfolding routes route_decoded
route_codes = (refl, refl)
