-- For proofs: a plan as one of more names (document 02, T-09: "missing names are taken as empty"), and arrays that hold it. Assumes nothing.
use Rattle.std.specs.Prelude.{ℕ}
use Rattle.plan.specs.declared.PlanArrays.{PlanArrays}
use Rattle.plan.specs.Words.{Plan}

-- the same points and contacts, of n names
abbrev pub widened : ℕ → Plan → Plan
widened n p = record { names = n; points = p.points; contacts = p.contacts }

abbrev pub widened_arrays : ℕ → PlanArrays → PlanArrays
widened_arrays n r = record { names = n; count = r.count; points = r.points; rows = r.rows }
