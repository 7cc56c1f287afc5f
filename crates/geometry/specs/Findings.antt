-- What a rule finds, and what all of them find: words for the cases of a Result. Definitions alone; assumes nothing.
use Rattle.std.specs.Prelude.{ℕ, Result, Ok, Err, ⊤}
use Rattle.geometry.specs.declared.Broken.{Broken}

-- nothing, or the page that breaks the rule
abbrev pub Finding : Type 0
Finding = Result ⊤ ℕ

pattern abbrev pub Good : Finding
Good = Ok tt

pattern abbrev pub Bad : ℕ → Finding
Bad page = Err page

-- nothing, or the first broken rule and its page
abbrev pub Verdict : Type 0
Verdict = Result ⊤ Broken

pattern abbrev pub Sound : Verdict
Sound = Ok tt

abbrev pub broken_at : ℕ → ℕ → Verdict
broken_at rule page = Err (record { rule = rule; page = page })
