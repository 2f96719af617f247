-- Calls of a log in a row.
use Rattle.std.specs.Prelude.{Bool, true, false, ◌&&◌, not, List, [], ◌∷◌}
use Rattle.std.specs.List.{flat_map}
use Rattle.sled_log.specs.Events.{Event}
use Rattle.sled_log.specs.Events as events
use Rattle.sled_log.specs.Calls.{can_append}
use Rattle.sled_log.specs.Chains.{chains_after}
use Rattle.sled_log.specs.Messages.{Message, Messages, effect_of}
use Rattle.sled_log.specs.declared.runs.LogCall.{LogCall}
use Rattle.sled_log.specs.declared.runs.LogCall.TheVariants.{Append, MakeStable, Pin, Seal, Cancel}

-- what a call adds
abbrev pub events_of : LogCall → List (Event Message)
events_of (Append kind pid payload) = events.Change pid (record { kind = kind; payload = payload.items }) ∷ []
events_of MakeStable = []
events_of Pin = events.Pin ∷ []
events_of Seal = events.Seal ∷ []
events_of Cancel = events.Cancel ∷ []

abbrev pub events_of_all : List LogCall → List (Event Message)
events_of_all calls = flat_map events_of calls

-- whether the call may be made on a log with these pages, if `batch` says whether a batch is open
abbrev pub can_make : List Messages → Bool → LogCall → Bool
can_make pages batch (Append kind pid payload) = can_append effect_of pages pid kind
can_make pages batch MakeStable = not batch
can_make pages batch Pin = not batch
can_make pages batch Seal = batch
can_make pages batch Cancel = batch

-- whether a batch is open after it
abbrev pub leaves_open : Bool → LogCall → Bool
leaves_open batch (Append kind pid payload) = batch
leaves_open batch MakeStable = batch
leaves_open batch Pin = true
leaves_open batch Seal = false
leaves_open batch Cancel = false

abbrev pub can_make_all : List Messages → Bool → List LogCall → Bool
can_make_all pages batch [] = true
can_make_all pages batch (call ∷ calls) = can_make pages batch call && can_make_all (chains_after effect_of pages (events_of call)) (leaves_open batch call) calls
