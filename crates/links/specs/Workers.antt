-- Words of the private functions, which judge one input and walk over two sheets that were judged, and of their proofs;
-- no outsider reads them.
use Rattle.std.specs.Prelude.{◌≡◌, ℕ, zero, suc, ◌+◌, ◌*◌, ◌≤◌, ◌<◌, ◌^◌, List, [], ◌∷◌, map, true, false, Bool, length, Option, Some, None, Result, Ok, Err}
use Rattle.std.proofs.Math.Option.{none}
use Rattle.refusal.specs.Paper.{number_of, carried}
use Rattle.refusal.specs.declared.Refusal.{Refusal}
use Rattle.covenants.specs.Kind.{is_name}
use Rattle.sheets.specs.declared.Place.{Place}
use Rattle.sheets.specs.Sheet.{Output, output_of, Coin, items_from, coin_of, input_at, place_at, gap, coin_at}
use Rattle.checks.specs.Checks.{Step, passes, breaks, and_then, check, same_address, name_and_start, destined}
use Rattle.refusal.specs.Outcome.{Outcome, ok, err, many_at, list_of}
use Rattle.primitives.specs.declared.Outpoint.{Outpoint}
use Rattle.checks.specs.Paper.{partner_of}
use Rattle.checks.specs.Items.{items_at}
use Rattle.checks.specs.Workers.{Left}
use Rattle.links.specs.Rules.{committed, row_rule, rule}
use Rattle.links.specs.declared.rows.Rest.{Rest}
use Rattle.links.specs.declared.rows.TableRow.{TableRow}
use Rattle.links.specs.declared.rows.Turn.{Turn}
use Rattle.links.specs.declared.walk.Beside.{Beside}

-- ---- a row: what comes before name and start, and what after

abbrev pub afterwards : Rest → ℕ → Output → Output → Step
afterwards Rest.Unlinked i spent made = passes false
afterwards Rest.Linked i spent made = passes true
afterwards Rest.Address i spent made = check (same_address spent.address made.address) 21 (i ∷ [])
afterwards Rest.Claimed i spent made = breaks 20 (i ∷ [])
afterwards Rest.Commitment i spent made = committed i spent made
afterwards Rest.Destination i spent made = destined i spent made

abbrev pub named_then : Rest → ℕ → Output → Output → Step
named_then rest i spent made = and_then (name_and_start i spent.items made.items) (afterwards rest i spent made)

abbrev pub gated : Result (Option Rest) Refusal → ℕ → Output → Output → Step
gated (Err r) i spent made = breaks (number_of r) (carried r)
gated (Ok None) i spent made = passes false
gated (Ok (Some rest)) i spent made = named_then rest i spent made

-- a gate says what a row says, wherever both outputs stand
abbrev pub Gates : (ℕ → Output → Output → Step) → ℕ → Place → Place → Result (Option Rest) Refusal → Type 0
Gates row i spent made gate = (coins tx : List ℕ) → gated gate i (output_of coins spent) (output_of tx made) ≡ row i (output_of coins spent) (output_of tx made)

-- what a row says of any output of a kind that has no partner: where it passes, no output is linked
abbrev pub alone : Result Unit Refusal → Step
alone (Ok u) = passes false
alone (Err r) = breaks (number_of r) (carried r)

abbrev pub Alone : ℕ → ℕ → TableRow → Result Unit Refusal → Type 0
Alone i kind row r = (spent : Output) → spent.kind ≡ kind → alone r ≡ row_rule row i spent none

-- ---- what two sheets hold, by counts and positions

abbrev pub inputs_in : List ℕ → ℕ → List Outpoint
inputs_in tx n = list_of (many_at (input_at tx) n 4)

abbrev pub outputs_in : List ℕ → ℕ → ℕ → List Output
outputs_in tx left at = map (output_of tx) (list_of (many_at (place_at 0 tx) left at))

abbrev pub coins_in : List ℕ → ℕ → List Coin
coins_in coins n = map (coin_of coins) (list_of (many_at (coin_at 1 coins) n 4))

-- so many inputs stand after the head, so many outputs at a position
abbrev pub Inputs : List ℕ → ℕ → Type 0
Inputs tx n = (xs : List Outpoint) × (end : ℕ) × (many_at (input_at tx) n 4 ≡ ok xs end)

abbrev pub Outputs : List ℕ → ℕ → ℕ → Type 0
Outputs tx left at = (ps : List Place) × (end : ℕ) × (many_at (place_at 0 tx) left at ≡ ok ps end)

-- both sheets can be read, with these counts
pub record Sheets (tx coins : List ℕ) (inputs outputs n : ℕ) : Type 0 where
  pub ins : List Outpoint
  pub outs : List Place
  pub cs : List (Outpoint × Place)
  pub ends : ℕ × ℕ × ℕ
  pub few : 4 + inputs * 36 + outputs < 2 ^ 32
  pub long : (length tx < 2 ^ 64) × (length coins < 2 ^ 64)
  pub inputs_read : many_at (input_at tx) inputs 4 ≡ ok ins ends.0
  pub outputs_read : many_at (place_at 0 tx) outputs (4 + inputs * 36) ≡ ok outs ends.1
  pub coins_read : many_at (coin_at 1 coins) n 4 ≡ ok cs ends.2

-- ---- one input, at its positions

-- its partner, where outputs are left, and where the next output stands
abbrev pub made_at : ℕ → Outcome Place → Beside
made_at at (ok made next) = record { partner = Some made; next = next }
made_at at (err k vs p) = record { partner = None; next = at }

unfoldable pub partner_at : ℕ → List ℕ → ℕ → Beside
partner_at zero tx at = record { partner = None; next = at }
partner_at (suc left) tx at = made_at at (place_at 0 tx at)

-- it passes: whether it links an output and spends a name, and where the next coin and the next output stand; or it
-- breaks a rule
pub data Turned : Type 0 where
  moves : Bool → Bool → ℕ → ℕ → Turned
  stops : ℕ → List ℕ → Turned

abbrev pub turned : Step → Bool → ℕ → ℕ → Turned
turned (passes links) name coin output = moves links name coin output
turned (breaks k vs) name coin output = stops k vs

abbrev pub spending : List ℕ → List ℕ → ℕ → Beside → Outcome Place → Turned
spending tx coins i pair (ok spent next) = turned (rule i (output_of coins spent) (partner_of tx pair.partner)) (is_name spent.kind) next pair.next
spending tx coins i pair (err k vs p) = stops k vs

-- the coin stands at `coin`, the partner at `output`
unfoldable pub turn_at : List ℕ → List ℕ → ℕ → ℕ → ℕ → ℕ → Turned
turn_at tx coins i coin output left = spending tx coins i (partner_at left tx output) (place_at 1 coins (coin + 36 + gap 1))

-- an input whose items before the k-th agree: what is left of its row gives the whole
pub record Turning (tx coins : List ℕ) (i : ℕ) (t : Turn) (k : ℕ) (whole : Turned) : Type 0 where
  pub bound : k ≤ 2
  pub found : k < 2 → (t.spent_items ≡ items_at coins t.spent.covenant) × (t.made_items ≡ items_at tx t.made.covenant)
  pub rests : turned (and_then (Left i (items_from coins t.spent.covenant) (items_from tx t.made.covenant) k) (afterwards t.rest i (output_of coins t.spent) (output_of tx t.made)))
      (is_name t.spent.kind) t.next.coin t.next.output ≡ whole

abbrev pub Ahead : List ℕ → List ℕ → ℕ → Turned → Result Turn Refusal → Type 0
Ahead tx coins i whole (Ok t) = Turning tx coins i t t.first whole
Ahead tx coins i whole (Err r) = stops (number_of r) (carried r) ≡ whole

-- one that asks for no name and start; one that does; one without a partner
abbrev pub FreeTurn : Place → ℕ → ℕ → Turn → Type 0
FreeTurn spent coin output t = (tx coins : List ℕ) (i : ℕ) → Turning tx coins i t t.first (moves false (is_name spent.kind) coin output)

abbrev pub NamedTurn : List ℕ → List ℕ → Place → Place → Rest → ℕ → ℕ → Turn → Type 0
NamedTurn tx coins spent made rest coin output t =
    (i : ℕ) → Turning tx coins i t t.first (turned (named_then rest i (output_of coins spent) (output_of tx made)) (is_name spent.kind) coin output)

abbrev pub LoneTurn : ℕ → Place → ℕ → ℕ → Result Turn Refusal → Type 0
LoneTurn i spent coin output r = (tx coins : List ℕ) → Ahead tx coins i (turned (rule i (output_of coins spent) none) (is_name spent.kind) coin output) r
