-- What the program is asked for.
use Rattle.std.specs.Prelude.{ℕ, Bool, if◌then◌else◌, List, [], ◌∷◌, codes}
use Rattle.std.specs.Str.{bytes_eq}
use Rattle.plan_program.specs.declared.request.Request.{Request}
use Rattle.plan_program.specs.declared.request.Request.TheVariants.{Ranges, Usage, Unknown}

-- by its arguments, of which the first is its name, and by whether its input is a terminal
abbrev pub request_of : List (List ℕ) → Bool → Request
request_of [] typed = Ranges typed
request_of (name ∷ []) typed = Ranges typed
request_of (name ∷ word ∷ []) typed = if bytes_eq word (codes "--help") then Usage else Unknown
request_of (name ∷ word ∷ more) typed = Unknown
