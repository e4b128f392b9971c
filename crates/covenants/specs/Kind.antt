-- Covenant kinds: "A covenant kind is its byte" (document 01). The names are the Rust's `CovenantKind`; 12 to 255 are
-- unknown.
use Rattle.std.specs.Prelude.{ℕ, Bool, ◌&&◌, leb, eqb}

abbrev pub None : ℕ
None = 0

abbrev pub Claim : ℕ
Claim = 1

abbrev pub Open : ℕ
Open = 2

abbrev pub Bid : ℕ
Bid = 3

abbrev pub Reveal : ℕ
Reveal = 4

abbrev pub Redeem : ℕ
Redeem = 5

abbrev pub Register : ℕ
Register = 6

abbrev pub Update : ℕ
Update = 7

abbrev pub Renew : ℕ
Renew = 8

abbrev pub Transfer : ℕ
Transfer = 9

abbrev pub Finalize : ℕ
Finalize = 10

abbrev pub Revoke : ℕ
Revoke = 11

-- a known kind but None
abbrev pub is_name : ℕ → Bool
is_name kind = leb Claim kind && leb kind Revoke

-- Reveal to Revoke
abbrev pub is_linked : ℕ → Bool
is_linked kind = leb Reveal kind && leb kind Revoke

-- Revoke
abbrev pub is_unspendable : ℕ → Bool
is_unspendable kind = eqb kind Revoke
