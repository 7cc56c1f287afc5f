-- "Answer numbers": the calls on every image. Each gives its answer, address, counts, rule, page and the image
-- afterwards. Definitions alone; assumes nothing.
use Rattle.std.specs.Prelude.{ℕ, ◌+◌, ◌-◌, ◌*◌, Bool, List, leb, ltb, length, take, None, Option, Some, Err, is_none}
use Rattle.geometry.specs.declared.Geometry.{Geometry}
use Rattle.geometry.specs.Findings.{Verdict, Sound}
use Rattle.geometry.specs.declared.Patrol.{Patrol}
use Rattle.geometry.specs.declared.Patrol.TheVariants.{Clean, DataMended, CodeMended, Beyond}
use Rattle.geometry.specs.Geometry.{chosen_of, halves, code_place, page_base}
use Rattle.geometry.specs.Tests.{pick, ◌&◌}
use Rattle.model.specs.Codes.{found, mended}
use Rattle.model.specs.Image.{Chip, chip_of, pages_of, blocks_of, good_length, max_seq}
use Rattle.model.specs.Tree.{sought, live_pages}
use Rattle.model.specs.Rules.{verdict}
use Rattle.model.specs.Stores.{Store, apply_all, programs, erases}
use Rattle.model.specs.Update.{needs, too_high, insert_stores, delete_stores, format_stores}

pub record Outcome : Type 0 where
  pub answer : ℕ
  pub address : ℕ
  pub programmed : ℕ
  pub erased : ℕ
  pub rule : ℕ
  pub page : ℕ
  pub image : List ℕ

-- an answer with an address and counts; rule and page are "0 in other answers" than DAMAGED
abbrev pub gives : ℕ → ℕ → ℕ → ℕ → List ℕ → Outcome
gives answer address programmed erased img =
    record { answer = answer; address = address; programmed = programmed; erased = erased; rule = 0; page = 0; image = img }

-- DONE 0, LENGTH 1, DAMAGED 2, WORN 3, ABSENT 4, HEIGHT 5, ROOM 6, STOPPED 7.
-- "Numbers 1 to 6 leave the image untouched"
abbrev pub refused : ℕ → List ℕ → Outcome
refused answer img = gives answer 0 0 0 img

-- DAMAGED: "name the first broken rule .. and the page"
abbrev pub damaged : List ℕ → ℕ → ℕ → Outcome
damaged img rule page = record { answer = 2; address = 0; programmed = 0; erased = 0; rule = rule; page = page; image = img }

-- 0 with all stores made, or 7 with exactly the first `allowance` of them
unfoldable pub made : Geometry → List Store → ℕ → List ℕ → Outcome
made g stores allowance img =
    gives (pick (leb (length stores) allowance) 0 7) 0 (programs (take allowance stores)) (erases (take allowance stores))
    (apply_all g (take allowance stores) img)

-- a verdict, for a call of any kind: what it gives for a broken rule with its page, and what on a sound image
unfoldable pub by_verdict : {A : Type 0} → Verdict → (ℕ → ℕ → A) → A → A
by_verdict Sound broken rest = rest
by_verdict (Err b) broken rest = broken b.rule b.page

-- LENGTH and DAMAGED come first, in a call of any kind
unfoldable pub judged : {A : Type 0} → Geometry → List ℕ → A → (ℕ → ℕ → A) → A → A
judged g img short broken rest = pick (good_length g img) (by_verdict (verdict g (blocks_of g img) img) broken rest) short

unfoldable pub answered : Option ℕ → List ℕ → Outcome
answered None img = refused 4 img
answered (Some a) img = gives 0 a 0 0 img

-- one of the four calls, judged first
abbrev pub judged_call : Geometry → List ℕ → Outcome → Outcome
judged_call g img rest = judged g img (refused 1 img) (damaged img) rest

unfoldable pub lookup : Geometry → List ℕ → ℕ → Outcome
lookup g img k = judged_call g img (answered (sought (chip_of g (blocks_of g img) img) k) img)

-- WORN: "largest sequence number above 4,294,967,000"
unfoldable pub worn : Geometry → ℕ → List ℕ → Bool
worn g n img = ltb g.worn (max_seq g n img)

-- ROOM: "T − L < 63 + k", of insert; by R8 delete, whose k is 1, is never short of room
unfoldable pub roomless : Geometry → ℕ → ℕ → Bool
roomless g free k = ltb free (2 * g.pages - 1 + k)

-- T − L
abbrev pub free_pages : Geometry → ℕ → Chip → ℕ
free_pages g n c = pages_of g n - live_pages (pages_of g n) c

-- the rest of an insert on a judged image of n blocks
unfoldable pub insert_rest : Geometry → ℕ → List ℕ → ℕ → ℕ → ℕ → Outcome
insert_rest g n img k a allowance =
    pick (worn g n img) (refused 3 img) (
    pick (too_high g (chip_of g n img) k) (refused 5 img) (
    pick (roomless g (free_pages g n (chip_of g n img)) (needs g (chip_of g n img) k)) (refused 6 img)
    (made g (insert_stores g n img k a) allowance img)))

unfoldable pub insert : Geometry → List ℕ → ℕ → ℕ → ℕ → Outcome
insert g img k a allowance = judged_call g img (insert_rest g (blocks_of g img) img k a allowance)

unfoldable pub delete_rest : Geometry → ℕ → List ℕ → ℕ → ℕ → Outcome
delete_rest g n img k allowance =
    pick (worn g n img) (refused 3 img) (
    pick (is_none (sought (chip_of g n img) k)) (refused 4 img)
    (made g (delete_stores g n img k) allowance img))

unfoldable pub delete : Geometry → List ℕ → ℕ → ℕ → Outcome
delete g img k allowance = judged_call g img (delete_rest g (blocks_of g img) img k allowance)

-- "Format gives 1 for a bad length; else its answer is 0 .. and reports 1 and B"
unfoldable pub format : Geometry → List ℕ → Outcome
format g img = pick (good_length g img)
    (gives 0 0 1 (blocks_of g img) (apply_all g (format_stores g (blocks_of g img)) img))
    (refused 1 img)

-- the numbers of what a patrol found, and of the bit that it mended
abbrev pub finding_of : Patrol → ℕ
finding_of Clean = 0
finding_of (DataMended n) = 1
finding_of (CodeMended j) = 2
finding_of Beyond = 3

abbrev pub bit_of : Patrol → ℕ
bit_of Clean = 0
bit_of (DataMended n) = n
bit_of (CodeMended j) = j
bit_of Beyond = 0

-- request 4: the 256 bytes from `at` and the code at c: what was found, the bit, and the bytes afterwards
unfoldable pub patrolled : List ℕ → ℕ → ℕ → Outcome
patrolled img at c = gives 0 (finding_of (found img at c)) (bit_of (found img at c)) 0 (mended img at c (found img at c))

-- the halves that a patrol may be asked for: "A bad length, page or half gives LENGTH"
unfoldable pub is_half : Geometry → List ℕ → ℕ → ℕ → Bool
is_half g img page half = good_length g img & ltb page (pages_of g (blocks_of g img)) & ltb half (halves g)

-- "a patrol of one half, named by page and half"
unfoldable pub patrol : Geometry → List ℕ → ℕ → ℕ → Outcome
patrol g img page half = pick (is_half g img page half)
    (patrolled img (page_base g page + 256 * half) (page_base g page + code_place g half)) (refused 1 img)

-- "The caller says which geometry by a number, 0 or 1; another gives LENGTH", in a call of any kind
unfoldable pub chosen_call : {A : Type 0} → Option Geometry → (Geometry → A) → A → A
chosen_call (Some g) call short = call g
chosen_call None call short = short

unfoldable pub format_of : ℕ → List ℕ → Outcome
format_of kind img = chosen_call (chosen_of kind) (λ g. format g img) (refused 1 img)

unfoldable pub lookup_of : ℕ → List ℕ → ℕ → Outcome
lookup_of kind img k = chosen_call (chosen_of kind) (λ g. lookup g img k) (refused 1 img)

unfoldable pub insert_of : ℕ → List ℕ → ℕ → ℕ → ℕ → Outcome
insert_of kind img k a allowance = chosen_call (chosen_of kind) (λ g. insert g img k a allowance) (refused 1 img)

unfoldable pub delete_of : ℕ → List ℕ → ℕ → ℕ → Outcome
delete_of kind img k allowance = chosen_call (chosen_of kind) (λ g. delete g img k allowance) (refused 1 img)

unfoldable pub patrol_of : ℕ → List ℕ → ℕ → ℕ → Outcome
patrol_of kind img page half = chosen_call (chosen_of kind) (λ g. patrol g img page half) (refused 1 img)
