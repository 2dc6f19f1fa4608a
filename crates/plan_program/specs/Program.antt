-- What the program reads and writes.
use Rattle.std.specs.Prelude.{ℕ, if◌then◌else◌, List, [], ◌∷◌, ◌++◌, Some, Option, codes}
use Rattle.std.specs.Option.{option_map}
use Rattle.plan_sheet.specs.Prints.{answer}
use Rattle.plan_program.specs.declared.request.Request.{Request}
use Rattle.plan_program.specs.declared.request.Request.TheVariants.{Ranges, Usage, Unknown}

-- how the program is used
abbrev pub usage : List ℕ
usage =
    codes "usage: ringplan < PLAN_SHEET    prints which keys each group of the plan owns"
    ++ 10 ∷ []

-- what is said at a terminal before a sheet is read
abbrev pub awaited : List ℕ
awaited = codes "ringplan: type a plan sheet, and then the end of input (Ctrl-D)" ++ 10 ∷ []

-- on standard output, where it is known; key ranges hang on the input
abbrev pub printed_by : Request → Option (List ℕ) → Option (List ℕ)
printed_by (Ranges typed) input = option_map answer input
printed_by Usage input = Some usage
printed_by Unknown input = Some []

-- on standard error
abbrev pub told_by : Request → List ℕ
told_by (Ranges typed) = if typed then awaited else []
told_by Usage = []
told_by Unknown = usage

-- how many bytes of the input are read at most: one more than 4,096 shows that there are more
abbrev pub most_read : Request → ℕ
most_read (Ranges typed) = 4097
most_read Usage = 0
most_read Unknown = 0
