-- Every page that a damaged image's answer names is one of the image. Assumes nothing.
use Rattle.std.specs.Prelude.{◌≡◌, List, [], ◌∷◌, ◌⊎◌, true, false, ℕ, zero, suc, ◌+◌, ◌-◌, ◌*◌, ◌<◌, ◌≤◌, get_or}
use Rattle.std.proofs.Common.{sym, subst, inl, inr, arith}
use Rattle.geometry.specs.declared.Geometry.{Geometry}
use Rattle.geometry.specs.Shape.{Shape}
use Rattle.geometry.specs.Findings.{Finding, Good, Bad, broken_at}
use Rattle.geometry.specs.Tests.{and_right}
use Rattle.geometry.specs.Bounds.{four_bytes}
use Rattle.model.specs.Bytes.{erased}
use Rattle.model.specs.Image.{blocks_of, good_length, Chip, chip_of, pages_of, root_of, root_score}
use Rattle.model.specs.Rules.{r2, names, own_root, judge_entries, judge_node, r5, verdict}
use Rattle.theory_counts.specs.Lowest.{bad_good}
use Rattle.theory_counts.specs.Peak.{arg_less}
use Rattle.theory_lists.specs.All.{All}
use Rattle.theory_chips.specs.Next.{block_in}
use Rattle.theory_images.specs.Lengths.{good_blocks_lem}
use Rattle.theory_demands.specs.Findings.{bad_unless, rising_names, entries_below, node_below}
use Rattle.theory_demands.specs.Named.{findings, first_broken_lem, page_of_1, page_of_2, page_of_3, page_of_4, page_of_6, page_of_7, page_of_8}
use Rattle.theory_demands.specs.Disorder.{FirstErased, SecondMixed}

-- pages below t, of each finding of a list
bad_within : (t : ℕ) (fs : List Finding) → All (λ f. (p : ℕ) → f ≡ Bad p → p < t) fs → (i p : ℕ)
    → get_or fs i Good ≡ Bad p → p < t
bad_within t [] a i p e = absurd (bad_good p (sym e))
bad_within t (f ∷ fs) a zero p e = a.0 p e
bad_within t (f ∷ fs) a (suc i) p e = bad_within t fs a.1 i p e

module _ (g : Geometry) (n : ℕ) (img : List ℕ) where
  abbrev c : Chip
  c = chip_of g n img

  abbrev t : ℕ
  t = pages_of g n

  root_below : 1 ≤ t → c.root < t
  unfolding root_of
  root_below h = arg_less (root_score g img) t h

  below_5 : 1 ≤ t → (p : ℕ) → r5 g t c ≡ Bad p → p < t
  unfolding r5 own_root
  below_5 h p e = go (bad_unless _ _ p _ e)
    where
      go : ((own_root g c.er c.nodes t (suc c.level) c.root ≡ false) × (c.root ≡ p)) ⊎
          ((own_root g c.er c.nodes t (suc c.level) c.root ≡ true) ×
          (judge_entries (judge_node g c.er c.nodes t c.level) (c.nodes c.root (suc c.level)) four_bytes ≡ Bad p)) → p < t
      go (inl w) = omega (arith, w.1, root_below h)
      go (inr w) = entries_below g c.er c.nodes t c.level (c.nodes c.root (suc c.level)) four_bytes p
          (rising_names (names c.er t (suc c.level)) (c.nodes c.root (suc c.level)) 0 four_bytes (and_right _ _ w.0))
          (λ q lo y. node_below g c.er c.nodes t c.level q lo y p) w.1

  below_2 : (p : ℕ) → r2 g.pages n (erased g img) ≡ Bad p → p < t
  below_2 p e = go (page_of_2 g n img p e)
    where
      inside : (b i : ℕ) → b < n → i < g.pages → g.pages * b + i < g.pages * n
      inside b i h k = omega (arith, block_in g.pages b n h, k)

      go : FirstErased g.pages n (erased g img) p ⊎ SecondMixed g.pages n (erased g img) p → p < t
      go (inl x) = subst (λ q. q < t) (sym x.page_is) (inside x.block x.place x.before.block_in
          (omega (arith, x.before.after, x.before.place_in)))
      go (inr x) = subst (λ q. q < t) (sym x.page_is) (let w = inside x.second 0 x.second_mixed_lem.block_in
          (omega (arith, x.second_mixed_lem.erased_in_lem)) in omega (arith, w))

  zero_below : 1 ≤ t → (f : Finding) → ((p : ℕ) → f ≡ Bad p → p ≡ 0) → (p : ℕ) → f ≡ Bad p → p < t
  zero_below h f z p e = omega (arith, h, z p e)

  below : 1 ≤ t → (rule page : ℕ) → verdict g n img ≡ broken_at rule page → page < t
  below h rule page e = bad_within t (findings g n img) within (rule - 1) page (first_broken_lem g n img rule page e).broken
    where
      within : All (λ f. (p : ℕ) → f ≡ Bad p → p < t) (findings g n img)
      within = (
        (λ p i. (page_of_1 g n img p i).0),
        (
          below_2,
          (
            (λ p i. (page_of_3 g n img p i).inside),
            (
              zero_below h _ (page_of_4 g n img),
              (
                below_5 h,
                ((λ p i. (page_of_6 g n img p i).0), (zero_below h _ (page_of_7 g n img), (zero_below h _ (page_of_8 g n img), tt))),
              ),
            ),
          ),
        ),
      )

pub page_inside : (g : Geometry) → Shape g → (img : List ℕ) → good_length g img ≡ true → (rule page : ℕ)
    → verdict g (blocks_of g img) img ≡ broken_at rule page
    → page < pages_of g (blocks_of g img)
page_inside g shape img good rule page e =
    let w = block_in g.pages 0 (blocks_of g img) (omega (arith, (good_blocks_lem g img good).least)) in
    below g (blocks_of g img) img (omega (arith, w, shape.pages_low)) rule page e
