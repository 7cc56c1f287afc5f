-- ROOM by the record and the words is ROOM: no live page is erased, so T − L is at least F; and by R8 there is room for
-- one page. Assumes nothing.
use Rattle.std.specs.Prelude.{◌≡◌, Bool, true, false, ℕ, zero, suc, ◌+◌, ◌-◌, ◌*◌, ◌≤◌, ltb}
use Rattle.std.proofs.Common.{ap, sym, ◌∙◌, arith}
use borrow.Author.Tests.{lt-ltb, le-ltb}
use Rattle.geometry.specs.declared.Geometry.{Geometry}
use Rattle.geometry.specs.Geometry.{half, root_most}
use Rattle.geometry.specs.Tests.{bit, ◌&◌, and_true, and_none}
use Rattle.geometry.specs.Bounds.{four_bytes}
use Rattle.model.specs.Count.{count}
use Rattle.model.specs.Image.{pages_of, Chip}
use Rattle.model.specs.Tree.{places_of, live}
use Rattle.model.specs.Calls.{roomless, free_pages}
use Rattle.theory_counts.specs.Tally.{bit_most}
use Rattle.theory_counts.specs.Cases.{by_le, by_test, true_false}
use Rattle.theory_lists.specs.All.{all_map}
use Rattle.theory_nodes.specs.Nodes.{fit_of, fit_page}
use Rattle.theory_nodes.specs.Live.{dead_live}
use Rattle.theory_trees.specs.Proper.{root_fit}
use Rattle.theory_chips.specs.Whole.{Whole}
use Rattle.theory_chips.specs.Collect.{R8}

-- no number passes both
count_apart : (t : ℕ) (f h : ℕ → Bool) → ((j : ℕ) → bit (f j) + bit (h j) ≤ 1) → count t f + count t h ≤ t
unfolding count
count_apart zero f h a = omega arith
count_apart (suc t) f h a = omega (arith, a t, count_apart t f h a)

module _ (g : Geometry) (n : ℕ) (c : Chip) (whole : Whole g n c) where
  dead : (q : ℕ) → c.er q ≡ true → live (places_of c) q ≡ false
  dead q e = dead_live q (places_of c) (all_map (λ x. (1 ≤ x.level) × fit_of (g.pages * n) c.er x.level x.page) (λ x. x.page ≡ q → ⊥) (places_of c)
      (λ x i z. true_false (c.er q) e (ap c.er (sym z) ∙ (fit_page (g.pages * n) c.er x.level x.page i.0 i.1).1))
      (root_fit (fit_of (g.pages * n) c.er) (λ l. 2 * half g l) (root_most g) c.nodes c.level c.root four_bytes whole.sound.rooted))

  -- F is at most T − L
  pub free_most : count (pages_of g n) c.er ≤ free_pages g n c
  free_most =
      let z = count_apart (pages_of g n) c.er (live (places_of c)) (λ j. by_test (c.er j)
      (λ e. let y = bit_most (c.er j) in let w : bit (live (places_of c) j) ≡ 0 = ap bit (dead j e) in
      omega (arith, y, w))
      (λ e. let y = bit_most (live (places_of c) j) in let w : bit (c.er j) ≡ 0 = ap bit e in omega (arith, y, w))) in
      omega (arith, z)

  both_same : (k : ℕ) → (roomless g (count (pages_of g n) c.er) k & roomless g (free_pages g n c) k) ≡ roomless g
      (free_pages g n c) k
  unfolding roomless
  both_same k = by_le (2 * g.pages - 1 + k) (free_pages g n c)
      (λ q. rw (le-ltb (free_pages g n c) (2 * g.pages - 1 + k) q) (and_none (ltb (count (pages_of g n) c.er) (2 * g.pages - 1 + k))))
      (λ q. rw (lt-ltb (count (pages_of g n) c.er) (2 * g.pages - 1 + k) (omega (arith, q, free_most)))
      (and_true (ltb (free_pages g n c) (2 * g.pages - 1 + k))))

  -- R8 leaves room for one page
  module _ (some : 1 ≤ g.pages) (r8 : R8 g n c) where
    one_roomy : (k : ℕ) → k ≤ 1 → roomless g (free_pages g n c) k ≡ false
    unfolding roomless
    one_roomy k low = le-ltb (free_pages g n c) (2 * g.pages - 1 + k) (omega (arith, some, r8, low))

    pub room_same : (k : ℕ) → (ltb 1 k & roomless g (count (pages_of g n) c.er) k & roomless g (free_pages g n c) k)
        ≡ roomless g (free_pages g n c) k
    room_same k = by_le k 1
        (λ q. rw (one_roomy k q) (and_none (ltb 1 k & roomless g (count (pages_of g n) c.er) k)))
        (λ q. rw (lt-ltb 1 k q, and_true (roomless g (count (pages_of g n) c.er) k)) (both_same k))
