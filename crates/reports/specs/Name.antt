-- The name report (document 01, "Sheets and reports"), as the bytes of its line, the newline among them.
use Rattle.std.specs.Prelude.{ℕ, ◌-◌, List, [], ◌∷◌, ◌++◌, length, take, drop, ltb}
use Rattle.words.specs.Buffers.{pick}
use Rattle.refusal.specs.Outcome.{Outcome, ok, err}
use Rattle.name_state.specs.State.{State}
use Rattle.name_state.specs.Paper.{class_of}
use Rattle.name_state.specs.declared.Class.{Class}
use Rattle.name_state_codec.specs.Read.{read_state}
use Rattle.texts.specs.Text.{decimal, newline, refused_line}

-- "CLASS is null, or held if the owner isn't null, else free"
abbrev pub class_name : Class → List ℕ
class_name Class.Null = 110 ∷ 117 ∷ 108 ∷ 108 ∷ []
class_name Class.Held = 104 ∷ 101 ∷ 108 ∷ 100 ∷ []
class_name Class.Free = 102 ∷ 114 ∷ 101 ∷ 101 ∷ []

-- "state ", " name=" and " bytes="
abbrev pub state_text : List ℕ
state_text = 115 ∷ 116 ∷ 97 ∷ 116 ∷ 101 ∷ 32 ∷ []

abbrev pub name_text : List ℕ
name_text = 32 ∷ 110 ∷ 97 ∷ 109 ∷ 101 ∷ 61 ∷ []

abbrev pub bytes_text : List ℕ
bytes_text = 32 ∷ 98 ∷ 121 ∷ 116 ∷ 101 ∷ 115 ∷ 61 ∷ []

-- "It prints `state CLASS name=LENGTH bytes=RECORD-LENGTH`, or `refused NUMBER`"
abbrev pub state_line : ℕ → Outcome State → List ℕ
state_line size (ok t end) = state_text ++ class_name (class_of t) ++ name_text ++ decimal (length t.name) ++ bytes_text ++ decimal size ++ newline
state_line size (err k vs p) = refused_line k

-- "`state.bin`: 32 key bytes, then the record (fewer than 32, or no file: `refused 1`)"
unfoldable pub name_line : List ℕ → List ℕ
name_line file = pick (ltb (length file) 32) (refused_line 1) (state_line (length file - 32) (read_state (take 32 file) (drop 32 file)))
