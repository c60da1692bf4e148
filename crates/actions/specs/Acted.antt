-- What the actions of a record do.
use Rattle.std.specs.Prelude.{◌≡◌, List, ℕ}
use Rattle.format.specs.Record.{Rec, records}
use Rattle.groups.specs.declared.relay.Relay.{Relay}
use Rattle.groups.specs.Relayed.{Ran}
use Rattle.onestep.specs.ByBytes.{arrival}
use Rattle.onestep.specs.Actions.{sent_by, header_after, sent}

-- what action i of a record sends of a frame that has header h by then
abbrev pub action_sends : Relay → Rec → ℕ → ℕ → List ℕ
action_sends x r i h =
    let net = x.groups.now.net in sent_by (records net.n net.store.now) net.layout.widths x.frame.switch x.frame.port r h i

-- action i was run: its copies are added to the line, and the header after it is the result
pub record Acted (r : Rec) (i h : ℕ) (before after : Relay) (result : ℕ) : Type 0 where
  pub ran : Ran (action_sends before r i h) before after
  pub header : result ≡ header_after before.groups.now.net.layout.widths r h i

-- what the actions of a record send of a frame
abbrev pub record_sends : Relay → Rec → List ℕ
record_sends x r = let net = x.groups.now.net in sent (records net.n net.store.now) net.layout.widths (arrival x.frame.switch x.frame.port x.frame.header) r
