-- On a sound image of one of the two chips there are at most 536,870,912 pairs, so fewer than 2^32. Assumes nothing.
use Rattle.std.specs.Prelude.{ℕ, zero, suc, ◌+◌, ◌*◌, ◌<◌, ◌≤◌, ◌≡◌, refl, List, length}
use Rattle.std.proofs.Common.{ap, ◌∙◌, arith, mul-zero, zero-mul, lit≤}
use Rattle.geometry.specs.declared.Geometry.{Geometry}
use Rattle.geometry.specs.Findings.{Good, Sound}
use Rattle.geometry.specs.Geometry.{small, large, first_slot, slots_of, half, root_slots, root_most}
use Rattle.geometry.specs.Shape.{Known, is_small, is_large, shape_core}
use Rattle.geometry.proofs.Shape.{shape}
use Rattle.geometry.specs.Bounds.{four_bytes}
use Rattle.model.specs.Image.{pages_of, chip_of}
use Rattle.model.specs.Tree.{map_of}
use Rattle.model.specs.Rules.{r5, verdict}
use Rattle.model.specs.Listing.{ranged_of}
use Rattle.open_record.specs.Opened.{pairs_most}
use Rattle.theory_counts.specs.Lowest.{or_sound}
use Rattle.theory_nodes.specs.Nodes.{fit_of}
use Rattle.theory_nodes.specs.Judge.{r5_most, r5_rises}
use Rattle.theory_nodes.specs.Between.{between_fewer, most_under, root_most_lem}
use Rattle.theory_nodes.proofs.Between.{ranged_root}

-- the most pairs of a tree, l levels below its root
abbrev most_of : Geometry → ℕ → ℕ
most_of g l = root_most g (suc l) * most_under (λ j. 2 * half g j) l

-- a level without slots has nothing below it, and nothing has it below
none_above : (room : ℕ → ℕ) (t : ℕ) → room (suc t) ≡ 0 → (j l : ℕ) → l ≡ j + suc t → most_under room l ≡ 0
unfolding most_under
none_above room t e zero l q = let z : l ≡ suc t = omega arith in rw (z, e) (zero-mul (most_under room t))
none_above room t e (suc j) l q =
    let z : l ≡ suc (j + suc t) = omega arith in
    rw (z, none_above room t e j (j + suc t) refl) (mul-zero (room (suc (j + suc t))))

none_few : (g : Geometry) (t : ℕ) → 2 * half g (suc t) ≡ 0 → (j l : ℕ) → l ≡ j + suc t → most_of g l ≤ pairs_most
none_few g t e j l q =
    let z = ap (λ (x : ℕ). root_most g (suc l) * x) (none_above (λ i. 2 * half g i) t e j l q)
    ∙ mul-zero (root_most g (suc l)) in
    omega (arith, z)

small_few : (l : ℕ) → most_of small l ≤ pairs_most
unfolding most_under root_most root_slots first_slot slots_of
small_few zero = lit≤ tt
small_few (suc zero) = lit≤ tt
small_few (suc (suc zero)) = lit≤ tt
small_few (suc (suc (suc zero))) = lit≤ tt
small_few (suc (suc (suc (suc zero)))) = lit≤ tt
small_few (suc (suc (suc (suc (suc l))))) =
    let q : suc (suc (suc (suc (suc l)))) ≡ l + suc 4 = omega arith in
    none_few small 4 refl l _ q

large_few : (l : ℕ) → most_of large l ≤ pairs_most
unfolding most_under root_most root_slots first_slot slots_of
large_few zero = lit≤ tt
large_few (suc zero) = lit≤ tt
large_few (suc (suc zero)) = lit≤ tt
large_few (suc (suc (suc zero))) = lit≤ tt
large_few (suc (suc (suc (suc zero)))) = lit≤ tt
large_few (suc (suc (suc (suc (suc zero))))) = lit≤ tt
large_few (suc (suc (suc (suc (suc (suc zero)))))) = lit≤ tt
large_few (suc (suc (suc (suc (suc (suc (suc l))))))) =
    let q : suc (suc (suc (suc (suc (suc (suc l)))))) ≡ l + suc 6 = omega arith in
    none_few large 6 refl l _ q

known_few : (g : Geometry) → Known g → (l : ℕ) → most_of g l ≤ pairs_most
known_few _ is_small l = small_few l
known_few _ is_large l = large_few l

sound_r5 : (g : Geometry) (n : ℕ) (img : List ℕ) → verdict g n img ≡ Sound → r5 g (pages_of g n) (chip_of g n img) ≡ Good
unfolding verdict
sound_r5 g n img e = (or_sound _ _ _ (or_sound _ _ _ (or_sound _ _ _ (or_sound _ _ _ (or_sound _ _ _ e).1).1).1).1).0

most_map : (g : Geometry) (n : ℕ) (img : List ℕ) → Known g → verdict g n img ≡ Sound
    → length (map_of (chip_of g n img)) ≤ pairs_most
most_map g n img known e =
    let c = chip_of g n img in
    let t = pages_of g n in
    let rules = sound_r5 g n img e in
    let up = r5_rises g (shape_core g (shape g known)) t c rules in
    let b = root_most_lem (fit_of t c.er) (λ j. 2 * half g j) c.nodes c.level four_bytes
    (root_most g (suc c.level)) c.root up (r5_most g (shape_core g (shape g known)) t c rules) in
    omega (arith, b, known_few g known c.level)

pub few_map : (g : Geometry) (n : ℕ) (img : List ℕ) → Known g → verdict g n img ≡ Sound
    → length (map_of (chip_of g n img)) < four_bytes
few_map g n img known e = omega (arith, most_map g n img known e)

pub most_pairs_lem : (g : Geometry) (n : ℕ) (img : List ℕ) (low high : ℕ) → Known g → verdict g n img ≡ Sound
    → length (ranged_of (chip_of g n img) low high) ≤ pairs_most
most_pairs_lem g n img low high known e =
    let c = chip_of g n img in
    let t = pages_of g n in
    let up = r5_rises g (shape_core g (shape g known)) t c (sound_r5 g n img e) in
    let is = ap length (ranged_root (fit_of t c.er) (λ j. 2 * half g j) c.nodes low high c.level four_bytes c.root up) in
    let a = between_fewer low high (map_of c) in
    let b = most_map g n img known e in
    omega (arith, is, a, b)

pub few_pairs : (g : Geometry) (n : ℕ) (img : List ℕ) (low high : ℕ) → Known g → verdict g n img ≡ Sound
    → length (ranged_of (chip_of g n img) low high) < four_bytes
few_pairs g n img low high known e = omega (arith, most_pairs_lem g n img low high known e)
