-- Row 6 of a link.
use Rattle.std.specs.Prelude.{◌≡◌, not, ◌&&◌, ◌||◌, eqb}
use Rattle.format.specs.Record.{Rec, Net, at, kind, linked, widths_of}
use Rattle.format.specs.State.{ordinary}
use Rattle.refusals.specs.Rows.{row6}
use Rattle.widths.specs.declared.Widths.{Widths}

-- by its tests in their order
pub link_row : (w : Widths) (before : Net) (r : Rec) → kind r ≡ 2 → w ≡ widths_of before
    → row6 before r
    ≡ (not (ordinary w (at r 2)) || not (ordinary w (at r 4)) || linked before (at r 1) (at r 2) || linked before (at r 3) (at r 4)
    || (eqb (at r 1) (at r 3) && eqb (at r 2) (at r 4)))
unfolding row6
link_row w before r k e = rw (k, e)
