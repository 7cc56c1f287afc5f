-- One store: a page at the next place with the next number, with a root or without; a block without live pages erased.
-- What is held stays held. Assumes nothing.
use Rattle.std.specs.Prelude.{◌≡◌, List, true, ℕ, suc, ◌*◌, ◌<◌, ◌≤◌}
use Rattle.std.proofs.Math.Path.{refl, ap, sym, subst}
use Rattle.std.proofs.Common.{◌∙◌, arith, ne_eqb}
use Rattle.geometry.specs.declared.Geometry.{Geometry}
use Rattle.geometry.specs.declared.Entry.{Entry}
use Rattle.geometry.specs.Geometry.{half, root_most}
use Rattle.geometry.specs.Shape.{Core}
use Rattle.geometry.specs.Bounds.{four_bytes}
use Rattle.model.specs.Count.{count}
use Rattle.model.specs.Image.{pages_of, max_seq, Chip, chip_of}
use Rattle.model.specs.Tree.{map_of, places_of}
use Rattle.model.specs.Next.{ahead, next_page, after}
use Rattle.model.specs.Stores.{apply_store}
use Rattle.theory_counts.specs.Cases.{true_false}
use Rattle.theory_nodes.specs.Nodes.{fit_of}
use Rattle.theory_trees.specs.Frame.{pairs_same, root_places_same, sound_same}
use Rattle.theory_chips.specs.Count.{count_gone}
use Rattle.theory_chips.specs.Next.{r2_next}
use Rattle.theory_chips.specs.Whole.{some_page, Whole}
use Rattle.theory_chips.specs.Pages.{fit_after}
use Rattle.theory_images.specs.Views.{View, top_of, rooted, beside, R3, AllR1}
use Rattle.theory_images.specs.Page.{views, view_max}
use Rattle.theory_images.specs.Built.{Parts, built_view}
use Rattle.theory_images.specs.Stores.{Image, length_store}
use Rattle.theory_images.proofs.Stores.{views_built, program_root, program_beside, program_r1, program_r3, program_r4, beside_r4}
use Rattle.theory_images.specs.Small.{Small, built_small, store_small}
use Rattle.theory_images.specs.Held.{Held, er_at}
use Rattle.theory_images.specs.Writes.{N-in, found, h_low, max_new, next_free, next_store}

module _ (g : Geometry) (core : Core g) (n : ℕ) (img : List ℕ) (held : Held g n img) where
  abbrev t : ℕ
  t = pages_of g n

  abbrev c : Chip
  c = chip_of g n img

  module _ (free : 1 ≤ count t c.er) where
    abbrev N : ℕ
    N = next_page g.pages n (ahead g n c)

    view_free : (views g img N).er ≡ true
    view_free = er_at g n img N ∙ (next_free g core n img held free)

    module _ (parts : ℕ → List Entry) (ok : Parts g parts)
        (low : suc (max_seq g n img) < 4294967295) (h : ℕ) (high : h ≤ g.top) where
      abbrev next : List ℕ
      next = apply_store g (next_store g n h parts img) img

      seq_is : suc (max_seq g n img) ≡ suc (top_of t (views g img))
      seq_is = ap suc (sym (view_max g n img))

      pub put_max : max_seq g n next ≡ suc (max_seq g n img)
      unfolding next_store
      put_max = sym (view_max g n next) ∙ ap (top_of t) (views_built g core img n held.image N (N-in g core n img held free) (suc (max_seq g n img)) h parts ok low (h_low g core n img held free parts ok low h high))
          ∙ max_new t (views g img) N (built_view g (suc (max_seq g n img)) h parts) (N-in g core n img held free) seq_is ∙ sym seq_is

      put_image : Image g n next
      put_image = length_store g (next_store g n h parts img) img ∙ held.image

      put_small : Small next
      unfolding next_store
      put_small = store_small g (next_store g n h parts img) img (built_small g (suc (max_seq g n img)) h parts) held.bytes

      put_r1 : AllR1 g.top t (views g next)
      unfolding next_store
      put_r1 = program_r1 g core img n held.image N (N-in g core n img held free) (suc (max_seq g n img)) h parts ok low (h_low g core n img held free parts ok low h high) high (omega arith) held.r1

      put_r3 : R3 t (views g next)
      unfolding next_store
      put_r3 = program_r3 g core img n held.image N (N-in g core n img held free) (suc (max_seq g n img)) h parts ok low (h_low g core n img held free parts ok low h high) seq_is held.r3

      -- with a root: what is to be shown is that the abstract chip is whole
      module _ (some-h : 1 ≤ h) where
        pub root_chip : chip_of g n next ≡ rooted c N (built_view g (suc (max_seq g n img)) h parts)
        unfolding next_store
        root_chip = program_root g core img n held.image N (N-in g core n img held free) (suc (max_seq g n img)) h parts ok low (h_low g core n img held free parts ok low h high) some-h seq_is

        pub root_held : Whole g n (rooted c N (built_view g (suc (max_seq g n img)) h parts)) → Held g n next
        unfolding next_store
        root_held w = record {
          image = put_image;
          bytes = put_small;
          r1 = put_r1;
          r3 = put_r3;
          r4 = program_r4 g core img n held.image N (N-in g core n img held free) (suc (max_seq g n img)) h parts ok low (h_low g core n img held free parts ok low h high) some-h seq_is;
          whole = subst (Whole g n) (sym root_chip) w;
        }

        pub root_frees : count t c.er ≡ suc (count t (chip_of g n next).er)
        unfolding rooted
        root_frees = let e = ap (λ (x : Chip). count t x.er) root_chip in
            omega (arith, count_gone t N c.er (N-in g core n img held free) (next_free g core n img held free), e)

      -- without: all is as before, whatever the page holds
      module _ (no-h : h ≡ 0) where
        abbrev w : View
        w = built_view g (suc (max_seq g n img)) h parts

        pub side_chip : chip_of g n next ≡ beside c N w
        unfolding next_store
        side_chip = program_beside g core img n held.image N (N-in g core n img held free) (suc (max_seq g n img)) h parts ok low (h_low g core n img held free parts ok low h high) no-h view_free

        stays : (q l : ℕ) → fit_of t c.er (suc l) q → (beside c N w).nodes q (suc l) ≡ c.nodes q (suc l)
        unfolding beside
        stays q l i = rw (ne_eqb q N (λ e. true_false (c.er N) (next_free g core n img held free) (rw (← e) i.1))) refl

        side_whole : Whole g n (beside c N w)
        unfolding beside
        side_whole = record {
          r2 = r2_next g.pages n (ahead g n c) (some_page g core) held.whole.r2 (found g core n img held free).0 (found g core n img held free).1;
          sound = sound_same four_bytes (λ l. 2 * half g l) (root_most g) c.nodes (beside c N w).nodes (fit_of t c.er)
              (fit_of t (after N c.er)) (fit_after t N c.er) stays c.level c.root held.whole.sound;
        }

        pub side_held : Held g n next
        unfolding next_store
        side_held = record {
          image = put_image;
          bytes = put_small;
          r1 = put_r1;
          r3 = put_r3;
          r4 = beside_r4 g core img n held.image N (N-in g core n img held free) (suc (max_seq g n img)) h parts ok low (h_low g core n img held free parts ok low h high) no-h view_free held.r4;
          whole = subst (Whole g n) (sym side_chip) side_whole;
        }

        pub side_map : map_of (chip_of g n next) ≡ map_of c
        unfolding beside
        side_map = ap map_of side_chip ∙ pairs_same four_bytes (λ l. 2 * half g l) (root_most g) c.nodes (beside c N w).nodes (fit_of t c.er)
            (fit_of t (after N c.er)) (fit_after t N c.er) stays c.level c.root held.whole.sound.rooted

        pub side_lives : places_of (chip_of g n next) ≡ places_of c
        unfolding beside
        side_lives = ap places_of side_chip ∙ root_places_same four_bytes (λ l. 2 * half g l) (root_most g) c.nodes (beside c N w).nodes
            (fit_of t c.er) (fit_of t (after N c.er)) (fit_after t N c.er) stays c.level c.root held.whole.sound.rooted

        pub side_frees : count t c.er ≡ suc (count t (chip_of g n next).er)
        unfolding beside
        side_frees = let e = ap (λ (x : Chip). count t x.er) side_chip in
            omega (arith, count_gone t N c.er (N-in g core n img held free) (next_free g core n img held free), e)
