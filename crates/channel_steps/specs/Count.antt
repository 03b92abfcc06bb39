-- How many messages there are, counted by the marks of the steps.
use Rattle.std.specs.Prelude.{ℕ, ◌+◌, ◌-◌, ◌^◌, min}
use Rattle.channel_calls.specs.declared.mark.Mark.{Mark}
use Rattle.channel_calls.specs.declared.mark.Mark.TheVariants.{Append, Take, TakeDisplaced, Replace}

-- how many messages there are after a step with this mark
abbrev pub counted : ℕ → Mark → ℕ
counted n Append = min (n + 1) (2 ^ 64 - 1)
counted n Take = n - 1
counted n TakeDisplaced = n - 1
counted n mark = n

-- how many messages a mark brings in, and how many it takes out
abbrev pub brought_in : Mark → ℕ
brought_in Append = 1
brought_in Replace = 1
brought_in mark = 0

abbrev pub taken_out : Mark → ℕ
taken_out Take = 1
taken_out TakeDisplaced = 1
taken_out Replace = 1
taken_out mark = 0
