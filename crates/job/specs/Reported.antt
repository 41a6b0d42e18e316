-- What the writers of reports promise.
use Rattle.std.specs.Prelude.{◌≡◌, ℕ, ◌+◌, ◌-◌, ◌^◌, min, IfOk, Result}
use Rattle.std.specs.declared.alloc.AllocError.{AllocError}
use Rattle.job.specs.declared.report.Came.{Came}
use Rattle.job.specs.declared.report.Counts.{Counts}

abbrev pub CameTo : Came → Result Came AllocError → Type 0
CameTo came r = IfOk r (λ c. c ≡ came)

abbrev pub no_counts : Counts
no_counts = record { taken = 0; refused = 0; bad = 0 }

-- one more, up to what 64 bits hold
abbrev pub one_more : ℕ → ℕ
one_more n = min (n + 1) (2 ^ 64 - 1)

abbrev pub counted : Counts → Came → Counts
counted c Came.Passed = c
counted c Came.Taken = record { taken = one_more c.taken; refused = c.refused; bad = c.bad }
counted c Came.Refused = record { taken = c.taken; refused = one_more c.refused; bad = c.bad }
counted c Came.NoCall = record { taken = c.taken; refused = c.refused; bad = one_more c.bad }
