-- What is meant: the lines that the program floorplan prints (document 01, 'Worked sheets', the last paragraph), and those of asread
-- (document 02, T-02) and of why (T-06). Assumes nothing.
use Rattle.std.specs.Prelude.{cond, List, [], ◌∷◌, ◌++◌, ℕ, zero, suc, ◌+◌, ◌/◌, ◌%◌, ltb, length, get_or}
use Rattle.formula.specs.Formula.{Formula, Name}
use Rattle.lexer.specs.Text.{bytes, byte}
use Rattle.lists.specs.Search.{collect, below, or_else}
use Rattle.evalset.specs.Bit.{bit}
use Rattle.plan.specs.Words.{Plan}
use Rattle.printing.specs.Text.{text_of}
use Rattle.trees.specs.Trees.{Tree, split, rule, floorless, missing}

-- ---- numbers, in decimal

-- at most k digits: the last, and before it those of a tenth, if there is one
unfoldable pub digits : ℕ → ℕ → List ℕ
digits zero n = []
digits (suc k) n = let tens = digits k (n / 10) in cond (ltb n 10) [] tens ++ (byte "0" + n % 10) ∷ []

-- no number has more digits than its value and one
unfoldable pub decimal : ℕ → List ℕ
decimal n = digits (suc n) n

-- a text and a number behind it
abbrev pub labelled : List ℕ → ℕ → List ℕ
labelled label n = label ++ decimal n

-- ---- a plan

-- "Every line ends with byte 10, the last one too."
abbrev pub ended : List ℕ → List ℕ
ended line = line ++ 10 ∷ []

-- "PLAN names=2 points=2"
unfoldable pub head_line : ℕ → ℕ → List ℕ
head_line names points = ended (labelled (bytes "PLAN names=") names ++ labelled (bytes " points=") points)

-- a name, if the evaluation has the bit of its number
abbrev pub name_if : List Name → ℕ → ℕ → List Name
name_if names e i = cond (bit e i) (get_or names i [] ∷ []) []

-- "its names in order of number"
unfoldable pub point_names : List Name → ℕ → List Name
point_names names e = collect (name_if names e) (below (length names))

-- "or "-" if none"
unfoldable pub names_or_none : List Name → ℕ → List Name
names_or_none names e = or_else (point_names names e) (bytes "-" ∷ [])

-- behind one blank
abbrev pub blanked : List ℕ → List ℕ
blanked word = bytes " " ++ word

-- "A point line has its position and its names in order of number, parted by one blank, or "-" if none."
unfoldable pub point_line : List Name → ℕ → ℕ → List ℕ
point_line names i e = ended (labelled (bytes "point ") i ++ bytes ":" ++ collect blanked (names_or_none names e))

-- the lines of all points, in order of position
unfoldable pub point_lines : List Name → List ℕ → List ℕ
point_lines names points = collect (λ i. point_line names i (get_or points i 0)) (below (length points))

-- "Contact lines follow as "contact 0 1", positions as in the words."
unfoldable pub contact_line : ℕ → List ℕ
contact_line k = ended (labelled (bytes "contact ") (k / 256) ++ labelled (bytes " ") (k % 256))

-- a plan over these names
unfoldable pub plan_text : List Name → Plan → List ℕ
plan_text names p = head_line p.names (length p.points) ++ point_lines names p.points ++ collect contact_line p.contacts

-- ---- a refusal

-- ".. "refused 1 line 0 at 0" (number, line, place)"
unfoldable pub refused_text : ℕ → ℕ → ℕ → List ℕ
refused_text number line place = ended (labelled (bytes "refused ") number ++ labelled (bytes " line ") line ++ labelled (bytes " at ") place)

-- ---- rules

-- T-02: "Planners want to see a standing rule as the tool has read it.": each rule's text, one a line
unfoldable pub rule_lines : List (Formula Name) → List ℕ
rule_lines rules = collect (λ f. ended (text_of f)) rules

-- ---- a tree

-- two blanks a level
unfoldable pub margin : ℕ → List ℕ
margin depth = collect (λ level. bytes "  ") (below depth)

-- a line, indented by its depth
unfoldable pub indented : ℕ → List ℕ → List ℕ
indented depth line = margin depth ++ ended line

-- "split on C(raw,cooked)"
abbrev pub split_text : List ℕ → List ℕ
split_text atom = bytes "split on " ++ atom

-- "rule 4 is false here"
abbrev pub rule_text : ℕ → List ℕ
rule_text k = labelled (bytes "rule ") k ++ bytes " is false here"

abbrev pub floorless_text : List ℕ
floorless_text = bytes "no floor"

-- one line a word, in the order of words: the atom's text, and under it its branches, first the one with it true; or why the branch is closed
abbrev pub reason_lines : (ℕ → List ℕ) → ℕ → Tree → List ℕ
reason_lines atom depth (split a t f) = indented depth (split_text (atom a)) ++ (reason_lines atom (suc depth) t ++ reason_lines atom (suc depth) f)
reason_lines atom depth (rule k) = indented depth (rule_text k)
reason_lines atom depth floorless = indented depth floorless_text
reason_lines atom depth missing = []
