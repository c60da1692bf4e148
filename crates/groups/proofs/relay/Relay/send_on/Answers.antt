use mathlib.Core.Path.{refl}
use Rattle.groups.specs.Laws.SentCopies.{own_line}
use Rattle.groups.proofs.relay.Relay.send_on.Goals as goal

pub send_on-requires : goal.send_on-requires
send_on-requires c =
    let x = c.args.self.now in
    let net = x.groups.now.net in
    (own_line net.layout.widths x.frame.switch c.args.header x.line net.stored.laid.limits x.line_len c.requires.0 x.fits.switch, c.requires.1)

pub returns : goal.returns
returns c = record { groups = refl; frame = refl; copies = c.send_on.ensures }
