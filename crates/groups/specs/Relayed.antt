-- What is sent of a frame that arrived.
use Rattle.std.specs.Prelude.{◌≡◌, List, ℕ, ◌^◌, ◌<◌}
use Rattle.format.specs.Record.{records}
use Rattle.format.specs.Group.{target_kind}
use Rattle.format.specs.declared.Bucket.{Bucket}
use Rattle.widths.specs.Widths.{line_bytes}
use Rattle.planes.specs.Adds.{Added}
use Rattle.onestep.specs.Departing.{departing}
use Rattle.onestep.specs.Groups.{sent_to, lower_sent}
use Rattle.groups.specs.declared.relay.Relay.{Relay}
use Rattle.groups.specs.Sent.{sends_at}

-- exactly the copies in l were added to the line of a frame
pub record Ran (l : List ℕ) (before after : Relay) : Type 0 where
  pub groups : after.groups.now ≡ before.groups.now
  pub frame : after.frame ≡ before.frame
  pub copies : Added l 0 (line_bytes before.groups.now.net.layout.widths) before.line after.line

-- a header and a port within the widths
abbrev pub HeaderFits : Relay → ℕ → Type 0
HeaderFits x h = h < 2 ^ x.groups.now.net.layout.widths.h

abbrev pub PortFits : Relay → ℕ → Type 0
PortFits x p = p < 2 ^ x.groups.now.net.layout.widths.p

-- the copies with header h that depart from the frame's switch at some ports
abbrev pub departs : Relay → ℕ → List ℕ → List ℕ
departs x h ports = departing x.groups.now.net.layout.widths x.frame.switch h ports

-- what group g sends of the frame, which enters it with header h
abbrev pub group_sends : Relay → ℕ → ℕ → List ℕ
group_sends x g h = sends_at x.groups.now.net x.frame g h

-- what a bucket of group g, which set header h, sends to its target
abbrev pub target_sends : Relay → ℕ → Bucket → ℕ → List ℕ
target_sends x g b h =
    let net = x.groups.now.net in
    let w = net.layout.widths in
    sent_to (target_kind b.kind) w x.frame.switch x.frame.port (lower_sent (records net.n net.store.now) w x.frame.switch x.frame.port g) b.target h
