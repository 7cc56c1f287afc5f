-- The erase of an emptied block. Assumes nothing.
use Rattle.std.specs.Prelude.{◌≡◌, List, Bool, replicate, leb, ltb}
use Rattle.std.proofs.Math.Path.{refl, sym}
use Rattle.std.proofs.Common.{subst, ◌∙◌, arith, lt-ltb, le-leb, ltb-true, leb-true}
use Rattle.std.proofs.Math.Bool.{true, false}
use Prim.Native.Nat.{ℕ, ◌+◌, ◌-◌, ◌*◌, ◌<◌, ◌≤◌}
use Rattle.geometry.specs.declared.Geometry.{Geometry}
use Rattle.geometry.specs.declared.Entry.{Entry}
use Rattle.geometry.specs.Tests.{pick}
use Rattle.geometry.specs.Geometry.{page_bytes}
use Rattle.geometry.specs.Shape.{Shape}
use Rattle.model.specs.Bytes.{node_at}
use Rattle.model.specs.Count.{count}
use Rattle.model.specs.Image.{Chip}
use Rattle.model.specs.Tree.{places_of, live}
use Rattle.model.specs.Next.{in_block}
use Rattle.theory_counts.specs.Tally.{count_same}
use Rattle.theory_counts.specs.Cases.{true_false}
use Rattle.theory_lists.specs.All.{All, Mem, all_map, all_mem}
use Rattle.theory_nodes.specs.Nodes.{fit_of}
use Rattle.theory_nodes.specs.Live.{mem_live}
use Rattle.theory_chips.specs.Count.{count_all, count_none, sum_point, count_blocks}
use Rattle.theory_chips.specs.Next.{page_inj}
use Rattle.theory_chips.specs.Sweep.{Sweeping}

unfoldable pub in_b : ℕ → ℕ → ℕ → Bool
in_b g v q = pick (leb (g * v) q) (ltb q (g * v + g)) false

pub own : (g v j : ℕ) → j < g → in_b g v (g * v + j) ≡ true
unfolding in_b
own g v j h = rw (le-leb (g * v) (g * v + j) (omega arith), lt-ltb (g * v + j) (g * v + g) (omega arith)) refl

pub range : (g v q : ℕ) → in_b g v q ≡ true → (g * v ≤ q) × (q < g * v + g)
unfolding in_b
range g v q h = go (leb (g * v) q) refl h
  where
    go : (t : Bool) → leb (g * v) q ≡ t → pick t (ltb q (g * v + g)) false ≡ true → (g * v ≤ q) × (q < g * v + g)
    go true e i = (leb-true (g * v) q e, ltb-true q (g * v + g) i)
    go false e i = absurd (true_false false i refl)

pub other : (g v b j : ℕ) → j < g → (b ≡ v → ⊥) → in_b g v (g * b + j) ≡ false
other g v b j h d = go (in_b g v (g * b + j)) refl
  where
    go : (t : Bool) → in_b g v (g * b + j) ≡ t → t ≡ false
    go true e = let w = range g v (g * b + j) e in
        absurd (d (page_inj g b v j (g * b + j - g * v) h (omega (arith, w.0, w.1))
        (omega (arith, w.0))).0)
    go false e = refl

-- what an erased page reads as
unfoldable pub blank_node : Geometry → ℕ → List Entry
blank_node g l = node_at g (replicate (page_bytes g) 255) 0 l

-- the chip after block v is erased
unfoldable pub erase_block : Geometry → ℕ → Chip → Chip
erase_block g v c = record {
  er = λ q. pick (in_b g.pages v q) true (c.er q);
  seq = λ q. pick (in_b g.pages v q) 0 (c.seq q);
  nodes = λ q j. pick (in_b g.pages v q) (blank_node g j)
      (c.nodes q j);
  level = c.level;
  root = c.root;
}

module _ (g : Geometry) (shape : Shape g) (n : ℕ) (v : ℕ) (v-in : v < n) (c : Chip) (sw : Sweeping g n v 0 c) where
  abbrev c' : Chip
  c' = erase_block g v c

  pub er_own : (j : ℕ) → j < g.pages → c'.er (g.pages * v + j) ≡ true
  unfolding erase_block
  er_own j h = rw (own g.pages v j h) refl

  pub er_other : (b j : ℕ) → j < g.pages → (b ≡ v → ⊥) → c'.er (g.pages * b + j) ≡ c.er (g.pages * b + j)
  unfolding erase_block
  er_other b j h d = rw (other g.pages v b j h d) refl

  abbrev pub fit_outside : ℕ → ℕ → Type 0
  fit_outside l q = fit_of (g.pages * n) c.er l q × (1 ≤ l → in_b g.pages v q ≡ true → ⊥)

  pub outside : All (λ x. 1 ≤ x.level → in_b g.pages v x.page ≡ true → ⊥) (places_of c)
  outside = all_map (λ x. Mem x (places_of c)) (λ x. 1 ≤ x.level → in_b g.pages v x.page ≡ true → ⊥) (places_of c)
      (λ x m _ i. let w = range g.pages v x.page i in
      true_false (live (places_of c) x.page) (mem_live x (places_of c) m)
      (let e : x.page ≡ g.pages * v + (x.page - g.pages * v) = omega (arith, w.0) in
      subst (λ q. live (places_of c) q ≡ false) (sym e)
      (sw.dead (x.page - g.pages * v) (omega (arith, w.0, w.1)))))
      (all_mem (places_of c))

  pub erased_frees : count (g.pages * n) c'.er ≡ count (g.pages * n) c.er + g.pages
  erased_frees =
      let a : in_block g.pages c'.er v ≡ g.pages =
      count_same (λ j. c'.er (g.pages * v + j)) (λ _. true) g.pages er_own ∙ count_all
      g.pages in
      let b : in_block g.pages c.er v ≡ 0 =
      count_same (λ j. c.er (g.pages * v + j)) (λ _. false) g.pages sw.full ∙ count_none
      g.pages in
      let p = (sum_point n v g.pages (in_block g.pages c.er) (in_block g.pages c'.er) (omega (arith, a, b))
      (λ b d. count_same (λ j. c'.er (g.pages * b + j)) (λ j. c.er (g.pages * b + j)) g.pages (λ j w. er_other b j w d))).1 v-in in
      omega (arith, count_blocks g.pages n c'.er, count_blocks g.pages n c.er, p)
