-- For proofs: what the private functions compute, step by step, over the arrays: a kept name against bytes, its number, and one name more.
-- Assumes nothing.
use Rattle.std.specs.Prelude.{Bool, ◌&&◌, cond, List, [], ◌∷◌, ℕ, suc, ◌+◌, eqb, ltb, length, take, set}
use Rattle.formula.specs.Formula.{Name}
use Rattle.contact.specs.Numbering.{same_name}
use Rattle.names.specs.Gather.{kept_name}
use Rattle.names.specs.declared.KeptName.{KeptName}
use Rattle.names.specs.declared.Names.{Names}

-- a kept name has these bytes
unfoldable pub same_kept : KeptName → Name → Bool
same_kept k w = eqb k.len (length w) && same_name (take (length w) k.bytes) w

-- the number of the name with these bytes; how many there are where it is none of them
unfoldable pub place_in : Name → List KeptName → ℕ
place_in w [] = 0
place_in w (k ∷ ks) = let r = suc (place_in w ks) in cond (same_kept k w) 0 r

-- one name more, behind those that are kept
unfoldable pub push : Names → KeptName → Names
push ns k = record { list = set ns.list ns.count k; count = ns.count + 1 }

-- with the name of number n
unfoldable pub with_kept : Names → Name → ℕ → Names
with_kept ns w n = cond (ltb n ns.count) ns (push ns (kept_name w))
