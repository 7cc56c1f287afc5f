-- The collector: rounds until enough pages are erased. Assumes nothing.
use Rattle.std.specs.Prelude.{◌≡◌, Bool, ◌⊎◌, None, Option, Some}
use Rattle.std.proofs.Math.Path.{refl}
use Rattle.std.proofs.Common.{ap, sym, subst, ◌∙◌, inl, inr, arith}
use Rattle.std.proofs.Math.Bool.{true, false}
use Prim.Native.Nat.{ℕ, zero, suc, ◌+◌, ◌-◌, ◌*◌, ◌<◌, ◌≤◌}
use borrow.Author.Tests.{not-false, ltb-true, ltb-false}
use Rattle.geometry.specs.declared.Geometry.{Geometry}
use Rattle.geometry.specs.Tests.{pick, bit}
use Rattle.geometry.specs.Geometry.{half, root_most}
use Rattle.geometry.specs.Shape.{Shape, shape_core}
use Rattle.geometry.specs.Bounds.{four_bytes}
use Rattle.model.specs.Count.{count, least}
use Rattle.model.specs.Image.{Chip}
use Rattle.model.specs.Tree.{places_of, live}
use Rattle.model.specs.Next.{mixed, full, in_block}
use Rattle.model.specs.Collect.{lives_in, the_victim}
use Rattle.theory_counts.specs.Least.{Least, least_is}
use Rattle.theory_counts.specs.Tally.{count_same}
use Rattle.theory_counts.specs.Cases.{by_le, by_test, true_false}
use Rattle.theory_lists.specs.All.{all_map}
use Rattle.theory_nodes.specs.Nodes.{fit_of, fit_page}
use Rattle.theory_trees.specs.Proper.{root_fit}
use Rattle.theory_nodes.specs.Live.{dead_live}
use Rattle.theory_chips.specs.Count.{count_drop, count_none}
use Rattle.theory_chips.specs.Blocks.{Found, victim_is, dead_block}
use Rattle.theory_chips.specs.Whole.{some_page, Whole, same_self, same_then}
use Rattle.theory_chips.specs.Sweep.{sweep, emptied}
use Rattle.theory_chips.specs.Erase.{erase_block, erased_frees}
use Rattle.theory_chips.proofs.Erase.{erased_good, erased_pairs, erased_places, erased_alike}
use Rattle.theory_chips.specs.Collect.{Cleared, R7, clear, collect, full_none, lacks, wanted}

module _ (g : Geometry) (shape : Shape g) (n k : ℕ) where
  module _ (c : Chip) (h : Whole g n c) where
    -- a live page is not erased
    live_kept : (q : ℕ) → c.er q ≡ true → live (places_of c) q ≡ false
    live_kept q e = dead_live q (places_of c) (all_map (λ x. (1 ≤ x.level) × fit_of (g.pages * n) c.er x.level x.page) (λ x. x.page ≡ q → ⊥)
        (places_of c)
        (λ x i z. true_false (c.er q) e (subst (λ m. c.er m ≡ false) z
        (fit_page (g.pages * n) c.er x.level x.page i.0 i.1).1))
        (root_fit (fit_of (g.pages * n) c.er) (λ l. 2 * half g l) (root_most g) c.nodes c.level
        c.root four_bytes h.sound.rooted))

    dead_page : ℕ → Bool
    dead_page q = pick (c.er q) false (pick (live (places_of c) q) false true)

    three : (q : ℕ) → bit (c.er q) + bit (live (places_of c) q) + bit (dead_page q) ≡ 1
    unfolding dead_page
    three q = go (c.er q) (live (places_of c) q) refl refl
      where
        go : (t u : Bool) → c.er q ≡ t → live (places_of c) q ≡ u
            → bit t + bit u + bit (pick t false (pick u false true)) ≡ 1
        go true true a b = absurd (true_false (live (places_of c) q) b (live_kept q a))
        go true false a b = refl
        go false true a b = refl
        go false false a b = refl

    -- the mixed block, or n
    mixed_block : ℕ
    mixed_block = least n (mixed g.pages c.er)

    mixed_is : Least (mixed g.pages c.er) n mixed_block
    unfolding mixed_block
    mixed_is = least_is (mixed g.pages c.er) n

    mixed_last : (b : ℕ) → mixed g.pages c.er b ≡ true → c.er (g.pages * b + (g.pages - 1)) ≡ true
    mixed_last b z = go (c.er (g.pages * b + 0)) z
      where
        go : (t : Bool) → pick t false (c.er (g.pages * b + (g.pages - 1))) ≡ true
            → c.er (g.pages * b + (g.pages - 1)) ≡ true
        go true i = absurd (true_false false i refl)
        go false i = i

    some_er : mixed_block < n → 1 ≤ in_block g.pages c.er mixed_block
    some_er q = let p = some_page g (shape_core g shape) in omega (
      arith,
      count_drop g.pages (g.pages - 1) (λ i. c.er (g.pages * mixed_block + i)) (λ _. false)
          (omega (arith, p)) (mixed_last mixed_block (mixed_is.there q)) refl (λ i _. omega arith),
    )

    -- a block that is neither full nor mixed has no dead page
    clean : (b : ℕ) → b < n → full g.pages c.er b ≡ false → (b ≡ mixed_block → ⊥) → in_block g.pages dead_page b
        ≡ 0
    unfolding dead_page
    clean b q f d = by_test (c.er (g.pages * b + 0))
        (λ i. count_same (λ j. dead_page (g.pages * b + j)) (λ _. false) g.pages (λ j w. rw (h.r2.mono b 0 j q (omega arith) w i) refl)
        ∙ count_none
        g.pages)
        (λ i. let z : mixed g.pages c.er b ≡ true =
        rw (i, not-false (c.er (g.pages * b + (g.pages - 1))) f) refl in
        let w : mixed_block < n = by_le mixed_block b (λ y. omega (arith, q, y))
        (λ y. absurd (true_false (mixed g.pages c.er b) z (mixed_is.before b y))) in
        absurd (d (h.r2.one b mixed_block q w z (mixed_is.there w))))

    -- the victim of a round
    pub round_victim : R7 g n c → count (g.pages * n) (live (places_of c)) + (2 * g.pages + k) ≤ suc (g.pages * n)
        → count (g.pages * n) c.er < g.pages + k
        → (v : ℕ) × (the_victim g.pages n c ≡ Some v) × (v < n) × (full g.pages c.er v ≡ true) ×
        (lives_in g.pages v c < g.pages) ×
        (lives_in g.pages v c ≤ count (g.pages * n) c.er)
    round_victim r7 room few = go (the_victim g.pages n c) refl (victim_is (full g.pages c.er) (λ b. lives_in g.pages b c) n)
      where
        d : (v : ℕ) × (v < n) × (full g.pages c.er v ≡ true) × (lives_in g.pages v c < g.pages)
        d = dead_block g.pages k n c.er (live (places_of c)) dead_page three (full g.pages c.er) mixed_block some_er clean
            (some_page g (shape_core g shape)) room few

        go : (o : Option ℕ) → the_victim g.pages n c ≡ o → Found (full g.pages c.er)
            (λ b. lives_in g.pages b c) n o
            → (v : ℕ) × (the_victim g.pages n c ≡ Some v) × (v < n) × (full g.pages c.er v ≡ true) ×
            (lives_in g.pages v c < g.pages) ×
            (lives_in g.pages v c ≤ count (g.pages * n) c.er)
        go None e f = absurd (true_false (full g.pages c.er d.0) d.2 (f d.0 d.1))
        go (Some v) e f = let a = f.fewest d.0 d.1 d.2 in
            (v, e, f.below, f.is_full, omega (arith, a, d.3), bound r7)
          where
            bound : R7 g n c → lives_in g.pages v c ≤ count (g.pages * n) c.er
            bound (inl z) = omega (arith, f.fewest d.0 d.1 d.2, d.3)
            bound (inr z) = omega (arith, f.fewest z.0 z.1 z.2, z.3)

    pub round : R7 g n c → count (g.pages * n) (live (places_of c)) + (2 * g.pages + k) ≤ suc (g.pages * n)
        → count (g.pages * n) c.er < g.pages + k
        → Cleared g n c (clear g n (the_victim g.pages n c) c) ×
        (g.pages ≤ count (g.pages * n) (clear g n (the_victim g.pages n c) c).er) ×
        (count (g.pages * n) c.er < count (g.pages * n) (clear g n (the_victim g.pages n c) c).er)
    unfolding clear
    round r7 room few = go (round_victim r7 room few)
      where
        Out : Chip → Type 0
        Out c' = Cleared g n c c' × (g.pages ≤ count (g.pages * n) c'.er) × (count (g.pages * n) c.er < count (g.pages * n) c'.er)

        at : (v : ℕ) → v < n → full g.pages c.er v ≡ true → lives_in g.pages v c < g.pages
            → lives_in g.pages v c ≤ count (g.pages * n) c.er → Out (erase_block g v (sweep g n v g.pages c))
        at v v-in f less le =
            let sw = emptied g shape n v c h (λ i w. full_none g shape n k c h v i v-in f w) le in
            let fr = erased_frees g shape n v v-in (sweep g n v g.pages c) sw.done in
            let pl = ap (λ m. count (g.pages * n) (live m)) (erased_places g shape n v v-in (sweep g n v g.pages c) sw.done) in (
              record {
                good = erased_good g shape n v v-in (sweep g n v g.pages c) sw.done;
                pairs_are = erased_pairs g shape n v v-in (sweep g n v g.pages c) sw.done ∙ sw.pairs_are;
                lives = omega (arith, pl, sw.lives);
                alike = same_then g c (sweep g n v g.pages c) (erase_block g v (sweep g n v g.pages c)) sw.alike
                    (erased_alike g shape n v v-in (sweep g n v g.pages c) sw.done);
              },
              omega (arith, fr),
              omega (arith, fr, sw.frees, less),
            )

        go : (v : ℕ) × (the_victim g.pages n c ≡ Some v) × (v < n) × (full g.pages c.er v ≡ true) ×
            (lives_in g.pages v c < g.pages) ×
            (lives_in g.pages v c ≤ count (g.pages * n) c.er) → Out (clear g n (the_victim g.pages n c) c)
        go w = subst (λ o. Out (clear g n o c)) (sym w.1) (at w.0 w.2 w.3 w.4 w.5)

  -- m rounds are enough for what is lacking, or for k pages more than the first one leaves
  rounds : (m : ℕ) (c : Chip) → Whole g n c → R7 g n c → (g.pages + k ≤ count (g.pages * n) c.er + m) ⊎ (suc k ≤ m)
      → count (g.pages * n) (live (places_of c)) + (2 * g.pages + k) ≤ suc (g.pages * n)
      → Cleared g n c (collect g n k m c) × (g.pages + k ≤ count (g.pages * n) (collect g n k m c).er)
  unfolding collect
  rounds zero c h r7 (inl b) room = (record { good = h; pairs_are = refl; lives = omega arith; alike = same_self g c }, omega (arith, b))
  rounds zero c h r7 (inr b) room = absurd (omega (arith, b))
  rounds (suc m) c h r7 b room = go (lacks g n k c) refl
      (rounds m (clear g n (the_victim g.pages n c) c))
    where
      c' : Chip
      c' = clear g n (the_victim g.pages n c) c

      left : (g.pages + k ≤ count (g.pages * n) c.er + suc m) ⊎ (suc k ≤ suc m)
          → g.pages ≤ count (g.pages * n) c'.er
          → count (g.pages * n) c.er < count (g.pages * n) c'.er
          → g.pages + k ≤ count (g.pages * n) c'.er + m
      left (inl b) x y = omega (arith, b, y)
      left (inr b) x y = omega (arith, b, x)

      go : (t : Bool) → lacks g n k c ≡ t
          → (Whole g n c' → R7 g n c' → (g.pages + k ≤ count (g.pages * n) c'.er + m) ⊎ (suc k ≤ m)
          → count (g.pages * n) (live (places_of c')) + (2 * g.pages + k) ≤ suc (g.pages * n)
          → Cleared g n c' (collect g n k m c') × (g.pages + k ≤ count (g.pages * n) (collect g n k m c').er))
          → Cleared g n c (pick t (collect g n k m c') c) ×
          (g.pages + k ≤ count (g.pages * n) (pick t (collect g n k m c') c).er)
      go false e ih = (
        record { good = h; pairs_are = refl; lives = omega arith; alike = same_self g c },
        omega (arith, ltb-false (count (g.pages * n) c.er) (wanted g k) e),
      )
      go true e ih =
          let r = round c h r7 room (omega (arith, ltb-true (count (g.pages * n) c.er) (wanted g k) e)) in
          let w = ih r.0.good (inl r.1) (inl (left b r.1 r.2)) (omega (arith, r.0.lives, room)) in (
            record {
              good = w.0.good;
              pairs_are = w.0.pairs_are ∙ r.0.pairs_are;
              lives = omega (arith, w.0.lives, r.0.lives);
              alike = same_then g c c' _ r.0.alike w.0.alike;
            },
            w.1,
          )

  -- the collector: k + 1 rounds are enough
  pub collected : (c : Chip) → Whole g n c → R7 g n c
      → count (g.pages * n) (live (places_of c)) + (2 * g.pages + k) ≤ suc (g.pages * n)
      → Cleared g n c (collect g n k (suc k) c) × (g.pages + k ≤ count (g.pages * n) (collect g n k (suc k) c).er)
  collected c h r7 room = rounds (suc k) c h r7 (inr (omega arith)) room
