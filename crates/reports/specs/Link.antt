-- The link report (document 01, "Sheets and reports"), as the bytes of its line, the newline among them.
use Rattle.std.specs.Prelude.{ℕ, ◌&&◌, List, [], ◌∷◌, ◌++◌, length, get_or, ltb, leb}
use Rattle.words.specs.Buffers.{pick}
use Rattle.sheets.specs.Sheet.{Judged, whole, refused, transaction_of}
use Rattle.links.specs.Verify.{Said, summary, stopped, Answer, verify_of}
use Rattle.texts.specs.Text.{decimal, newline, refused_text, refused_line}

-- "links inputs=", " linked=", " names=" and " at "
abbrev pub inputs_text : List ℕ
inputs_text = 108 ∷ 105 ∷ 110 ∷ 107 ∷ 115 ∷ 32 ∷ 105 ∷ 110 ∷ 112 ∷ 117 ∷ 116 ∷ 115 ∷ 61 ∷ []

abbrev pub linked_text : List ℕ
linked_text = 32 ∷ 108 ∷ 105 ∷ 110 ∷ 107 ∷ 101 ∷ 100 ∷ 61 ∷ []

abbrev pub names_text : List ℕ
names_text = 32 ∷ 110 ∷ 97 ∷ 109 ∷ 101 ∷ 115 ∷ 61 ∷ []

abbrev pub at_text : List ℕ
at_text = 32 ∷ 97 ∷ 116 ∷ 32 ∷ []

-- ""at" gives the index for 12 to 26, otherwise it is absent"; the index is the first that these carry
abbrev pub index_text : ℕ → ℕ → List ℕ
index_text k index = pick (leb 12 k && leb k 26) (at_text ++ decimal index) []

abbrev pub stopped_line : ℕ → List ℕ → List ℕ
stopped_line k vs = refused_text ++ decimal k ++ index_text k (get_or vs 0 0) ++ newline

-- "prints one line: inputs checked, linked outputs, name inputs", as in `links inputs=0 linked=0 names=0`; or the
-- refusal
abbrev pub said_line : Said → List ℕ
said_line (summary inputs linked names) = inputs_text ++ decimal inputs ++ linked_text ++ decimal linked ++ names_text ++ decimal names ++ newline
said_line (stopped k vs side) = stopped_line k vs

abbrev pub answer_line : Answer → List ℕ
answer_line a = said_line a.said

-- the line of a sheet that is refused, else what follows it
abbrev pub judged_line : {A : Type 0} → Judged A → List ℕ → List ℕ
judged_line (whole a) next = next
judged_line (refused k vs side) next = stopped_line k vs

-- "`tx.sheet` and `coins.sheet` (each to 32,768 bytes, else 28 as that sheet's first check ..)": "The transaction sheet
-- is judged whole, then the coin sheet, then the links"
unfoldable pub link_line : List ℕ → List ℕ → List ℕ
link_line tx coins =
    pick (ltb 32768 (length tx)) (refused_line 28)
    (judged_line (transaction_of tx) (pick (ltb 32768 (length coins)) (refused_line 28) (answer_line (verify_of tx coins))))
