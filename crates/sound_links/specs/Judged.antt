-- R5 leaves no live page outside the image. Assumes nothing.
use Prim.Native.Nat.{ℕ, zero, suc, ◌+◌, ◌<◌, ◌≤◌}
use Rattle.std.specs.Prelude.{Bool, true, not, ◌≡◌, refl, leb, ltb}
use Rattle.std.proofs.Common.{sym, ◌∙◌, arith, ne_eqb, ltb-true}
use mathlib.Core.List.{List, [], ◌∷◌}
use Rattle.geometry.specs.declared.Geometry.{Geometry}
use Rattle.geometry.specs.declared.Entry.{Entry}
use Rattle.geometry.specs.Findings.{Finding, Good, Bad}
use Rattle.geometry.specs.Tests.{◌&◌, and_left, and_right}
use Rattle.geometry.specs.Bounds.{four_bytes}
use Rattle.model.specs.Image.{Nodes, Chip}
use Rattle.model.specs.Tree.{following, gather, Place, places}
use Rattle.model.specs.Rules.{first, names, rising, own, own_root, judge_entries, judge_node, r5}
use Rattle.theory_counts.specs.Lowest.{bad_good, good_unless}
use Rattle.theory_lists.specs.All.{All, all_append}
use Rattle.sound_links.specs.Loose.{Inside}

good_first : (v w : Finding) → first v w ≡ Good → (v ≡ Good) × (w ≡ Good)
unfolding first
good_first Good w e = (refl, e)
good_first (Bad p) w e = absurd (bad_good p e)

rising_names : (ok : ℕ → Bool) (es : List Entry) (lo hi : ℕ) → rising ok es lo hi ≡ true
    → All (λ e. ok e.addr ≡ true) es
unfolding rising
rising_names ok [] lo hi h = tt
rising_names ok (e ∷ es) lo hi h = (
  and_right (leb lo e.key & ltb e.key hi) (ok e.addr) (and_left (leb lo e.key & ltb e.key hi & ok e.addr) (rising ok es (e.key + 1) hi) h),
  rising_names ok es (e.key + 1) hi (and_right (leb lo e.key & ltb e.key hi & ok e.addr) (rising ok es (e.key + 1) hi) h),
)

-- an entry above a leaf names a page below t
names_below : (er : ℕ → Bool) (t l a : ℕ) → names er t (suc l) a ≡ true → 1 ≤ l → a < t
unfolding names
names_below er t l a h k =
    ltb-true a t (and_left (ltb a t) (not (er a)) (sym (simp (ne_eqb (suc l) 1 (omega arith))) ∙ h))

module _ (g : Geometry) (er : ℕ → Bool) (r : Nodes) (t m : ℕ) (le : t ≤ m) where
  Below : Place → Type 0
  Below x = x.page < m

  below_entries : (l : ℕ) (es : List Entry) (hi : ℕ)
      → ((e : Entry) (lo hi : ℕ) → judge_node g er r t l e.addr lo hi ≡ Good → (1 ≤ l → e.addr < m)
      → All Below (places r l e))
      → All (λ e. names er t (suc l) e.addr ≡ true) es → judge_entries (judge_node g er r t l) es hi ≡ Good
      → All Below (gather (places r l) es)
  unfolding gather judge_entries
  below_entries l [] hi each ok h = tt
  below_entries l (e ∷ es) hi each ok h =
      let two = good_first (judge_node g er r t l e.addr e.key (following es hi)) (judge_entries (judge_node g er r t l) es hi) h in
      all_append Below (places r l e) (gather (places r l) es)
      (each e e.key (following es hi) two.0 (λ k. (let w = names_below er t l e.addr ok.0 k in
      omega (arith, w, le))))
      (below_entries l es hi each ok.1 two.1)

  below_node : (l : ℕ) (e : Entry) (lo hi : ℕ) → judge_node g er r t l e.addr lo hi ≡ Good → (1 ≤ l → e.addr < m)
      → All Below (places r l e)
  unfolding places judge_node own Below
  below_node zero e lo hi h k = tt
  below_node (suc l) e lo hi h k =
      let two = good_unless (own g er r t (suc l) e.addr lo hi) e.addr (judge_entries (judge_node g er r t l) (r e.addr (suc l)) hi) h in (
        k (omega arith),
        below_entries l (r e.addr (suc l)) hi (λ x a b. below_node l x a b)
            (rising_names (names er t (suc l)) (r e.addr (suc l)) lo hi (and_right _ _ two.0)) two.1,
      )

pub r5_inside : (g : Geometry) (t m : ℕ) (c : Chip) → t ≤ m → c.root < m → r5 g t c ≡ Good → Inside c m
unfolding places r5 own_root Below
r5_inside g t m c le k h =
    let own = own_root g c.er c.nodes t (suc c.level) c.root in
    let node = c.nodes c.root (suc c.level) in
    let two = good_unless own c.root (judge_entries (judge_node g c.er c.nodes t c.level) node four_bytes) h in
    record {
      inside = (
        k,
        below_entries g c.er c.nodes t m le c.level node four_bytes
            (λ x a b. below_node g c.er c.nodes t m le c.level x a b)
            (rising_names (names c.er t (suc c.level)) node 0 four_bytes (and_right _ _ two.0)) two.1,
      );
    }
