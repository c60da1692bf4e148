use mathlib.Core.Path.{refl}
use Rattle.widths.specs.Widths.{line_bytes}
use Rattle.groups.specs.Sent.{sends_at}
use Rattle.groups.specs.Laws.Marking.{done_none}
use Rattle.groups.proofs.relay.Relay.of.Goals as goal

pub invariant_of-result : goal.invariant_of-result
invariant_of-result c =
    let net = c.args.groups.now.net in record {
      line_len = refl;
      marks_len = refl;
      fits = c.requires;
      done = done_none (sends_at net c.args.frame) (line_bytes net.layout.widths) 128 _;
    }
