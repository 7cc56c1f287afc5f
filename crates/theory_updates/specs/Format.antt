-- A formatted image is sound, whatever stood there before, and its map is empty; so the theorems speak of something.
-- Assumes nothing.
use Rattle.std.specs.Prelude.{◌≡◌, Bool, eqb}
use Rattle.std.proofs.Math.Path.{refl, ap, subst}
use Rattle.std.proofs.Common.{sym, ◌∙◌, inl, arith, mul-suc, mul-zero, eq-eqb, ne_eqb}
use mathlib.Core.List.{List, [], ◌∷◌}
use Rattle.std.proofs.Math.Bool.{true, false}
use Prim.Native.Nat.{ℕ, zero, suc, ◌+◌, ◌*◌, ◌<◌, ◌≤◌}
use Rattle.geometry.specs.declared.Geometry.{Geometry}
use Rattle.geometry.specs.declared.Entry.{Entry}
use Rattle.geometry.specs.Tests.{pick}
use Rattle.geometry.specs.Geometry.{half, root_most, in_table}
use Rattle.geometry.specs.Shape.{Core}
use Rattle.geometry.specs.Bounds.{four_bytes}
use Rattle.model.specs.Count.{count}
use Rattle.model.specs.Image.{pages_of, max_seq, Nodes, Chip, chip_of}
use Rattle.model.specs.Tree.{gather, under, map_of, Place, places, places_of, live, live_pages}
use Rattle.model.specs.Next.{mixed, after}
use Rattle.model.specs.Page.{built}
use Rattle.model.specs.Stores.{program, erase, apply_store, apply_all}
use Rattle.model.specs.Update.{root_node, erasures, format_stores}
use Rattle.theory_counts.specs.Tally.{bit_most, count_same}
use Rattle.chip_store.specs.Runs.{all_append}
use Rattle.theory_counts.specs.Cases.{by_eq, by_le, true_false}
use Rattle.theory_nodes.specs.Nodes.{fit_of}
use Rattle.theory_nodes.specs.Tied.{Tied}
use Rattle.theory_trees.specs.Proper.{Proper}
use Rattle.theory_chips.specs.Count.{count_all, count_gone}
use Rattle.theory_chips.specs.Next.{block_in, page_inj, in_range, R2}
use Rattle.theory_chips.specs.Whole.{some_page, Whole}
use Rattle.theory_chips.specs.Erase.{in_b}
use Rattle.theory_images.specs.Views.{View, no_view, Views, top_of, rooted, peak_least}
use Rattle.theory_images.specs.Page.{views, view_max}
use Rattle.theory_images.specs.Built.{Parts, built_view}
use Rattle.theory_images.specs.Stores.{Image, length_store, within, views_erase, block_room}
use Rattle.theory_images.proofs.Stores.{program_root, program_r1, program_r3, program_r4, program_max}
use Rattle.theory_images.specs.Small.{Small, built_small, store_small}
use Rattle.theory_images.specs.Held.{Held, er_at}
use Rattle.theory_images.specs.Lengths.{length_all}
use Rattle.theory_updates.specs.Along.{Keeps}

abbrev nothing : ℕ → List Entry
nothing l = []

-- one programmed page, the first
fresh_r2 : (p n : ℕ) (er : ℕ → Bool) → 1 ≤ p → ((q : ℕ) → q < p * n → er q ≡ after 0 (λ _. true) q) → R2 p n er
fresh_r2 p n er pos h = record {
  mono = mono;
  one = λ b c hb hc x y. (page_inj p b c 0 0 (omega arith) (omega arith)
      (first b hb x ∙ sym (first c hc y))).0;
}
  where
    not_first : (q : ℕ) → q < p * n → (q ≡ 0 → ⊥) → er q ≡ true
    not_first q i d = h q i ∙ rw (ne_eqb q 0 d) refl

    is_first : (q : ℕ) → q < p * n → q ≡ 0 → er q ≡ false
    is_first q i d = h q i ∙ rw (eq-eqb q 0 d) refl

    mono : (b i j : ℕ) → b < n → i ≤ j → j < p → er (p * b + i) ≡ true → er (p * b + j) ≡ true
    mono b i j hb q hj e = by_eq (p * b + j) 0
        (λ z. absurd (true_false (er (p * b + i)) e (is_first (p * b + i) (in_range p n b i hb (omega arith)) (omega (arith, z, q)))))
        (λ z. not_first (p * b + j) (in_range p n b j hb hj) z)

    first : (b : ℕ) → b < n → mixed p er b ≡ true → p * b + 0 ≡ 0
    first b hb x = by_eq (p * b + 0) 0 (λ z. z) (λ z. absurd (true_false (mixed p er b) x
        (rw (not_first (p * b + 0) (in_range p n b 0 hb (omega arith)) z) refl)))

-- an empty root on it
fresh_sound : (t : ℕ) (er : ℕ → Bool) (room most : ℕ → ℕ) (top : ℕ) (r : Nodes) → 0 < t → er 0 ≡ false
    → ((l : ℕ) → r 0 l ≡ [])
    → Proper (fit_of t er) room most top r 0 0
unfolding places gather
fresh_sound t er room most top r i e empty = record {
  rooted = record { fits = (i, e); least = λ z. absurd (omega (arith, z)); atmost = rw (empty 1) (omega arith); rises = rw (empty 1) tt };
  tied = subst (λ (es : List Entry). Tied r (record { page = 0; level = 1 } ∷ gather (places r 0) es)) (sym (empty 1))
      (((λ _ q. absurd (omega (arith, q))), tt), tt);
}

-- one page is live
count_one : (s : ℕ) → count s (λ q. pick (eqb 0 q) true false) ≤ 1
unfolding count
count_one zero = omega arith
count_one (suc s) = by_eq 0 s (λ e. let z : count s (λ q. pick (eqb 0 q) true false) ≡ 0 =
    subst (λ m. count m (λ q. pick (eqb 0 q) true false) ≡ 0) e refl in let b = bit_most (pick (eqb 0 s) true false) in
    omega (arith, z, b))
    (λ e. rw (ne_eqb 0 s e) (omega (arith, count_one s)))

module _ (g : Geometry) (core : Core g) (n : ℕ) (three : 3 ≤ n) (img : List ℕ) (image : Image g n img)
    (bytes : Small img) where
  abbrev t : ℕ
  t = pages_of g n

  big : 3 * g.pages ≤ t
  big = let w = block_in g.pages 2 n three in omega (arith, w)

  pos : 1 ≤ t
  pos = let z = some_page g core in omega (arith, big, z)

  abbrev wiped : ℕ → List ℕ
  wiped m = apply_all g (erasures m) img

  wiped_more : (m : ℕ) → wiped (suc m) ≡ apply_store g (erase m) (wiped m)
  unfolding erasures apply_all
  wiped_more m = all_append g (erasures m) (erase m ∷ []) img

  wiped_image : (m : ℕ) → Image g n (wiped m)
  wiped_image m = length_all g (erasures m) img ∙ image

  wiped_small : (m : ℕ) → Small (wiped m)
  unfolding erasures apply_all
  wiped_small zero = bytes
  wiped_small (suc m) = subst Small (sym (wiped_more m)) (store_small g (erase m) (wiped m) tt (wiped_small m))

  wiped_none : (m : ℕ) → m ≤ n → (q : ℕ) → q < g.pages * m → views g (wiped m) q ≡ no_view g
  wiped_none zero h q i = absurd (omega (arith, i, mul-zero g.pages))
  wiped_none (suc m) h q i =
      ap (λ (x : List ℕ). views g x q) (wiped_more m) ∙ ap (λ (v : Views). v q)
      (views_erase g core (wiped m) m (block_room g core (wiped m) n (wiped_image m) m h))
      ∙ go (in_b g.pages m q) refl
      (wiped_none m (omega arith) q)
    where
      before : in_b g.pages m q ≡ false → q < g.pages * m
      before e = by_le (suc q) (g.pages * m) (λ z. z) (λ z. absurd (true_false (in_b g.pages m q)
          (within g.pages m q (omega (arith, z)) (omega (arith, i, mul-suc g.pages m))) e))

      go : (u : Bool) → in_b g.pages m q ≡ u → (q < g.pages * m → views g (wiped m) q ≡ no_view g)
          → pick u (no_view g) (views g (wiped m) q) ≡ no_view g
      go true e ih = refl
      go false e ih = ih (before e)

  abbrev bare : List ℕ
  bare = wiped n

  none_at : (q : ℕ) → q < t → views g bare q ≡ no_view g
  none_at q h = wiped_none n (omega arith) q h

  max_none : top_of t (views g bare) ≡ 0
  unfolding top_of
  max_none = let w = peak_least t (λ q. (views g bare q).seq) 0 (λ i h. let e =
      ap (λ (x : View). x.seq) (none_at i h) in omega (arith, e)) in
      omega (arith, w)

  parts : Parts g nothing
  parts = record {
    fits = λ l _ _. tt;
    inside = λ l _ b. let z = core.room l b in omega (arith, z);
    bytes = λ l _ _. omega arith;
    apart = λ l m _ _ _. inl refl;
  }

  abbrev w : View
  w = built_view g 1 1 nothing

  abbrev d : Chip
  d = rooted (chip_of g n bare) 0 w

  nodes_none : (l : ℕ) → d.nodes 0 l ≡ []
  unfolding rooted
  nodes_none l = go (in_table g l)
    where
      go : (u : Bool) → pick {A = List Entry} u [] [] ≡ []
      go true = refl
      go false = refl

  er_is : (q : ℕ) → q < t → d.er q ≡ after 0 (λ _. true) q
  unfolding rooted
  er_is q h = ap (λ b. pick (eqb q 0) false b) (sym (er_at g n bare q) ∙ ap (λ (x : View). x.er) (none_at q h))

  abbrev formatted : List ℕ
  formatted = apply_all g (format_stores g n) img

  formatted_is : formatted ≡ apply_store g (program 0 (built g 1 1 nothing)) bare
  unfolding format_stores apply_all
  formatted_is = all_append g (erasures n) (program 0 (built g 1 1 nothing) ∷ []) img

  seq_is : 1 ≡ suc (top_of t (views g bare))
  seq_is = ap suc (sym max_none)

  pub formatted_chip : chip_of g n formatted ≡ d
  formatted_chip = ap (chip_of g n) formatted_is
      ∙ program_root g core bare n (wiped_image n) 0 pos 1 1 nothing parts (omega arith) (omega arith)
      (omega arith) seq_is

  whole : Whole g n d
  unfolding rooted
  whole = record {
    r2 = fresh_r2 g.pages n d.er (some_page g core) er_is;
    sound = fresh_sound t d.er (λ l. 2 * half g l)
        (root_most g) four_bytes d.nodes pos (er_is 0 pos) nodes_none;
  }

  formatted_held : Held g n formatted
  formatted_held = subst (Held g n) (sym formatted_is) (record {
    image = length_store g (program 0 (built g 1 1 nothing)) bare ∙ wiped_image n;
    bytes = store_small g (program 0 (built g 1 1 nothing)) bare (built_small g 1 1 nothing) (wiped_small n);
    r1 = program_r1 g core bare n (wiped_image n) 0 pos 1 1 nothing parts (omega arith) (omega arith) (let z =
        core.top_low in omega (arith, z))
        (omega arith) (λ q h. rw (none_at q h) (record { high = omega arith; rest = refl; some = λ e. absurd (true_false true refl e) }));
    r3 = program_r3 g core bare n (wiped_image n) 0 pos 1 1 nothing parts (omega arith) (omega arith) seq_is
        (record { differ = λ p q hp hq ep eq e. absurd (true_false true refl (sym (ap (λ (x : View). x.er) (none_at p hp)) ∙ ep)) });
    r4 = program_r4 g core bare n (wiped_image n) 0 pos 1 1 nothing parts (omega arith) (omega arith) (omega arith) seq_is;
    whole = subst (Whole g n) (sym (program_root g core bare n (wiped_image n) 0 pos 1 1 nothing parts (omega arith) (omega arith)
        (omega arith) seq_is)) whole;
  })

  pub formatted_frees : count t (chip_of g n formatted).er + 1 ≡ t
  formatted_frees =
      let e = ap (λ (x : Chip). count t x.er) formatted_chip in
      let x = count_same d.er (after 0 (λ _. true)) t er_is in
      let y = count_gone t 0 (λ _. true) pos refl in
      let z = count_all t in
      omega (arith, e, x, y, z)

  pub formatted_lives : live_pages t (chip_of g n formatted) ≤ 1
  unfolding rooted places gather live
  formatted_lives =
      let e = ap (λ (x : Chip). live_pages t x) formatted_chip in
      let z : places_of d ≡ record { page = 0; level = 1 } ∷ [] =
      ap (λ (es : List Entry). record { page = 0; level = 1 } ∷ gather
      (places d.nodes 0) es) (nodes_none 1) in
      let l = ap (λ (spots : List Place). count t (live spots)) z in
      omega (arith, e, l, count_one t)

  map_none : map_of d ≡ []
  unfolding rooted under gather
  map_none = ap (gather (under d.nodes 0)) (nodes_none 1)

  -- held, R7, the map empty
  pub formatted_keeps : Keeps g n [] formatted
  formatted_keeps = record {
    held = formatted_held;
    r7 = inl (let z = some_page g core in omega (arith, formatted_frees, big, z));
    r8 = (let z = some_page g core in omega (arith, formatted_lives, big, z));
    map_is =
        ap map_of formatted_chip ∙ map_none;
  }

  pub formatted_max : max_seq g n formatted ≤ 1
  formatted_max =
      let a = program_max g core bare n (wiped_image n) 0 pos 1 1 nothing parts (omega arith) (omega arith) seq_is in
      let b = view_max g n formatted in
      let e = ap (λ (x : List ℕ). top_of t (views g x)) formatted_is in
      omega (arith, a, b, e, max_none)

  -- the root is an empty leaf on page 0, alone
  pub formatted_level : (chip_of g n formatted).level ≡ 0
  unfolding rooted
  formatted_level = ap (λ (x : Chip). x.level) formatted_chip

  pub formatted_root : root_node (chip_of g n formatted) ≡ []
  unfolding rooted
  formatted_root = ap root_node formatted_chip ∙ nodes_none 1
