-- What is meant: trees of rules as read (document 02, T-06). Their different atoms are numbered from 0 by first place and the rules "counted
-- from 1"; a branch closes by kind 7 "because no finite plan gives the decided atoms their values". Assumes nothing.
use Rattle.std.specs.Prelude.{List, ℕ, length}
use Rattle.formula.specs.Formula.{Formula, Name}
use Rattle.contact.specs.Numbering.{names_of, different_atoms, numbered_atoms}
use Rattle.contact.specs.Question.{plain}
use Rattle.contact.specs.Row.{PartialRow}
use Rattle.trees.specs.Trees.{Tree}
use Rattle.trees.specs.Closed.{Unrealised, root, Closed}
use Rattle.trees.specs.Refusal.{Refused}
use Rattle.trees.specs.Written.{Written}

-- kind 7's reason
abbrev pub NoPlanFor : List (Formula Name) → PartialRow → Type 0
NoPlanFor rules part = Unrealised plain (names_of rules) (different_atoms rules) part

-- one of "the closed trees of these rules that split on no atom twice in a branch"
abbrev pub IsClosedTree : List (Formula Name) → Tree → Type 0
IsClosedTree rules t = Closed (length (different_atoms rules)) (numbered_atoms rules) (NoPlanFor rules) root t

-- the words are refused with 16 and this index
abbrev pub IsNoTree : List (Formula Name) → List ℕ → ℕ → Type 0
IsNoTree rules words j = Refused (length (different_atoms rules)) (numbered_atoms rules) (NoPlanFor rules) words j

-- the tree of the writer
abbrev pub IsWrittenTree : List (Formula Name) → Tree → Type 0
IsWrittenTree rules t = Written (length (different_atoms rules)) (numbered_atoms rules) (NoPlanFor rules) 0 root t
