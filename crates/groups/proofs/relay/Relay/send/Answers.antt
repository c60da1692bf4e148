use mathlib.Core.Path.{refl}
use native.Mathlib.Omega.{arith}
use Rattle.groups.specs.Laws.SentCopies.{own_line}
use Rattle.groups.proofs.relay.Relay.send.Goals as goal

pub send-requires : goal.send-requires
send-requires c =
    let x = c.args.self.now in
    let net = x.groups.now.net in
    (own_line net.layout.widths x.frame.switch _ x.line net.stored.laid.limits x.line_len (omega (arith, c.requires.0, x.fits.header)) x.fits.switch, c.requires.1)

pub returns : goal.returns
returns c = record { groups = refl; frame = refl; copies = c.send.ensures }
