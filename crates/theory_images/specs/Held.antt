-- The rules R1 to R6 of an image as statements, and that the verdict is those, R7 and R8, both ways. Assumes nothing.
use Rattle.std.specs.Prelude.{◌≡◌, List}
use Rattle.std.proofs.Math.Path.{refl, sym, subst}
use Rattle.std.proofs.Common.{ap, ◌∙◌, arith}
use Rattle.std.proofs.Math.Bool.{Bool, true, false, not}
use Prim.Native.Nat.{ℕ, suc, ◌+◌, ◌-◌, ◌*◌, ◌<◌, ◌≤◌}
use Rattle.std.proofs.Math.Nat.{mul-zero}
use Rattle.std.proofs.Math.Dec.{eqb, leb}
use borrow.Author.Tests.{not-false, le-leb, eq-eqb, ne_eqb, leb-true}
use Rattle.geometry.specs.declared.Geometry.{Geometry}
use Rattle.geometry.specs.Findings.{Finding, Good, Verdict, Sound}
use Rattle.geometry.specs.Tests.{pick, ◌&◌, and_true, and_false, and_left, and_right, and_both}
use Rattle.geometry.specs.Geometry.{page_bytes, halves, code_place, page_base, half, root_most}
use Rattle.geometry.specs.Shape.{Shape, Core, shape_core, halved}
use Rattle.geometry.specs.Bounds.{four_bytes}
use Rattle.model.specs.Bytes.{byte_at, u32_at, blank, erased, seq_at, height_at, tail_at}
use Rattle.model.specs.Codes.{codes_fit}
use Rattle.model.specs.Count.{any}
use Rattle.model.specs.Image.{pages_of, seq_of, height_of, root_score, root_of, chip_of}
use Rattle.model.specs.Tree.{places_of}
use Rattle.model.specs.Rules.{lowest, well_formed, r1, r2, repeated, r3, r4, r5, r6, r7, r8, asked, or_else, verdict}
use Rattle.theory_counts.specs.Least.{least_none, any_clear}
use Rattle.theory_counts.specs.Peak.{arg_less}
use Rattle.theory_counts.specs.Lowest.{lowest_good, good_lowest, good_unless, or_sound}
use Rattle.theory_counts.specs.Cases.{by_eq, by_le, true_false}
use Rattle.theory_lists.specs.All.{all_map}
use Rattle.theory_nodes.specs.Nodes.{fit_of, fit_page}
use Rattle.theory_trees.specs.Proper.{root_fit}
use Rattle.theory_nodes.specs.Judge.{unless_both, r5_rooted, rooted_r5, r6_tied, tied_r6}
use Rattle.theory_chips.specs.Whole.{some_page, Whole}
use Rattle.theory_chips.specs.Next.{block_in}
use Rattle.theory_chips.specs.Collect.{R7, R8}
use Rattle.theory_chips.specs.Tests.{any_one, r2_holds, holds_r2, r7_holds, holds_r7, r8_holds, holds_r8}
use Rattle.theory_images.specs.Views.{Views, root_at, R1, R3, AllR1, R4, root_in}
use Rattle.theory_images.specs.Page.{node_from, tail_from, view_from, views}
use Rattle.theory_images.specs.Stores.{Image}
use Rattle.theory_images.specs.Small.{Small}

pub record Held (g : Geometry) (n : ℕ) (img : List ℕ) : Type 0 where
  pub image : Image g n img
  pub bytes : Small img
  pub r1 : AllR1 g.top (pages_of g n) (views g img)
  pub r3 : R3 (pages_of g n) (views g img)
  pub r4 : R4 (pages_of g n) (views g img)
  pub whole : Whole g n (chip_of g n img)

-- a rule that looks for the lowest bad page
none_lowest : (t : ℕ) (f : ℕ → Bool) → ((p : ℕ) → p < t → f p ≡ false) → lowest t f ≡ Good
none_lowest t f h = sym (lowest_good f t (least_none f t h))

module _ (g : Geometry) (n : ℕ) (img : List ℕ) where
  abbrev t : ℕ
  t = pages_of g n

  abbrev v : Views
  v = views g img

  -- ---- R1
  page_r1 : (p : ℕ) → well_formed g img p ≡ true → R1 g.top (v p)
  unfolding well_formed view_from tail_from erased height_at tail_at seq_at
  page_r1 p h = go (blank img (page_base g p) (page_bytes g)) h
    where
      go : (b : Bool)
          → pick b true
          (leb (byte_at img (page_base g p + g.main + 4)) g.top & blank img (page_base g p + code_place g (halves g)) (page_bytes g - code_place g (halves g))
          & leb 1 (u32_at img (page_base g p + g.main)) & codes_fit g img (page_base g p) (halves g)) ≡ true
          → R1 g.top
          (record {
            er = b;
            seq = pick b 0 (u32_at img (page_base g p + g.main));
            height = pick b 0 (byte_at img (page_base g p + g.main + 4));
            tail = pick b true (tail_from g img (page_base g p));
            node = node_from g img (page_base g p);
          })
      go true i = record { high = omega arith; rest = refl; some = λ e. absurd (true_false true refl e) }
      go false i = let s = and_left _ _ i in let a = and_left _ _ s in record {
        high = leb-true _ _ (and_left _ _ a);
        rest = and_both _ _ (and_right _ _ a) (and_right _ _ i);
        some = λ _. leb-true 1 _ (and_right _ _ s);
      }

  r1_page : (p : ℕ) → R1 g.top (v p) → well_formed g img p ≡ true
  unfolding well_formed view_from tail_from erased height_at tail_at seq_at
  r1_page p h = go (blank img (page_base g p) (page_bytes g)) h.high h.rest h.some
    where
      go : (b : Bool) → pick b 0 (byte_at img (page_base g p + g.main + 4)) ≤ g.top
          → pick b true (tail_from g img (page_base g p)) ≡ true
          → (b ≡ false → 1 ≤ pick b 0 (u32_at img (page_base g p + g.main)))
          → pick b true
          (leb (byte_at img (page_base g p + g.main + 4)) g.top & blank img (page_base g p + code_place g (halves g)) (page_bytes g - code_place g (halves g))
          & leb 1 (u32_at img (page_base g p + g.main)) & codes_fit g img (page_base g p) (halves g)) ≡ true
      go true i j k = refl
      go false i j k = and_both _ _ (and_both _ _ (and_both _ _ (le-leb _ _ i) (and_left _ _ j)) (le-leb 1 _ (k refl))) (and_right _ _ j)

  -- ---- R3
  seq_at_lem : (p : ℕ) → (v p).er ≡ false → (v p).seq ≡ seq_at g img p
  unfolding view_from seq_at
  seq_at_lem p e = rw e refl

  pub er_at : (p : ℕ) → (v p).er ≡ erased g img p
  unfolding view_from erased
  er_at p = refl

  repeat : (p q : ℕ) → q < p → (v p).er ≡ false → (v q).er ≡ false → (v p).seq ≡ (v q).seq → repeated (erased g img)
      (seq_at g img) p ≡ true
  unfolding repeated
  repeat p q w ep eq e =
      let f : ℕ → Bool = λ q. not (erased g img q) & eqb (seq_at g img q) (seq_at g img p) in
      and_both _ _ (ap not (sym (er_at p) ∙ ep))
      (any_one p q f w (and_both _ _ (ap not (sym (er_at q) ∙ eq)) (eq-eqb _ _ (sym (seq_at_lem q eq) ∙ sym e ∙ seq_at_lem p ep))))

  differ : ((p : ℕ) → p < t → repeated (erased g img) (seq_at g img) p ≡ false) → R3 t v
  differ h = record {
    differ = λ p q hp hq ep eq e.
        by_eq p q (λ z. z) (λ z. absurd (by_le p q
        (λ w. true_false _ (repeat q p (omega (arith, w, z)) eq ep (sym e)) (h q hq))
        (λ w. true_false _ (repeat p q w ep eq e) (h p hp))));
  }

  no_repeat : R3 t v → (p : ℕ) → p < t → repeated (erased g img) (seq_at g img) p ≡ false
  unfolding repeated
  no_repeat h p hp = go (erased g img p) refl
    where
      inner : (q : ℕ) → q < p → erased g img p ≡ false → (b : Bool) → erased g img q ≡ b
          → (not b & eqb (seq_at g img q) (seq_at g img p)) ≡ false
      inner q w ep true eq = and_false _
      inner q w ep false eq = and_true _ ∙ ne_eqb _ _ (λ z. let x =
          h.differ p q hp (omega (arith, w, hp)) (er_at p ∙ ep) (er_at q ∙ eq)
          (seq_at_lem p (er_at p ∙ ep) ∙ sym z ∙ sym (seq_at_lem q (er_at q ∙ eq))) in omega (arith, x, w))

      go : (b : Bool) → erased g img p ≡ b → (not b & any p (λ q. not (erased g img q) & eqb (seq_at g img q)
          (seq_at g img p))) ≡ false
      go true e = and_false _
      go false e = and_true _ ∙ any_clear (λ q. not (erased g img q) & eqb (seq_at g img q) (seq_at g img p)) p
          (λ q w. inner q w e (erased g img q) refl)

  -- ---- R4
  pub root_height : (v (root_at t v)).height ≡ height_of g img (root_of g n img)
  unfolding view_from root_at height_of root_of root_score erased height_at seq_of seq_at
  root_height = refl

  root_er : 1 ≤ height_of g img (root_of g n img) → erased g img (root_of g n img) ≡ false
  unfolding height_of
  root_er h = go (erased g img (root_of g n img)) h
    where
      go : (b : Bool) → 1 ≤ pick b 0 (height_at g img (root_of g n img)) → b ≡ false
      go true i = absurd (omega (arith, i))
      go false i = refl

  root_below : 1 ≤ t → root_of g n img < t
  unfolding root_of
  root_below h = arg_less (root_score g img) t h

-- ---- the verdict
sound_or : (r : ℕ) (f : Finding) (w : Verdict) → f ≡ Good → w ≡ Sound → or_else r f w ≡ Sound
unfolding or_else
sound_or r f w h i = rw (h, i) refl

not_asked : (g : Geometry) → g.table ≡ 2 → (f : Finding) → asked g f ≡ Good
unfolding asked
not_asked g e f = rw (eq-eqb g.table 2 e) refl

-- R1 to R6 find nothing
pub record Ruled (g : Geometry) (n : ℕ) (img : List ℕ) : Type 0 where
  pub first : r1 g n img ≡ Good
  pub second : r2 g.pages n (erased g img) ≡ Good
  pub third : r3 g n img ≡ Good
  pub fourth : r4 g n img ≡ Good
  pub fifth : r5 g (pages_of g n) (chip_of g n img) ≡ Good
  pub sixth : r6 (pages_of g n) (chip_of g n img) ≡ Good

module _ (g : Geometry) (core : Core g) (n : ℕ) (img : List ℕ) where
  -- an image that keeps R1 to R6 is held
  pub ruled_held : 1 ≤ n → Image g n img → Small img → Ruled g n img → Held g n img
  unfolding r1 r3 r4
  ruled_held pos image bytes h =
      let t = pages_of g n in
      let chip = chip_of g n img in
      let high = leb-true 1 (height_of g img (root_of g n img)) (good_unless _ _ _ h.fourth).0 in
      let pages : 1 ≤ t = let z = block_in g.pages 0 n pos in let w = some_page g core in
      omega (arith, z, w, mul-zero g.pages) in
      let root = r5_rooted g core t chip (root_below g n img pages, root_er g n img high) h.fifth in
      let fits = root_fit (fit_of t chip.er) (λ l. 2 * half g l) (root_most g) chip.nodes chip.level chip.root four_bytes root in
      let tied = r6_tied t chip (all_map (λ x. (1 ≤ x.level) × fit_of t chip.er x.level x.page) (λ x. x.page < t) (places_of chip)
      (λ x i. (fit_page t chip.er x.level x.page i.0 i.1).0) fits) h.sixth in
      record {
        image = image;
        bytes = bytes;
        r1 = λ p q. page_r1 g n img p (not-false (well_formed g img p) (good_lowest (λ p. not (well_formed g img p)) t h.first p q));
        r3 = differ g n img (good_lowest (repeated (erased g img) (seq_at g img)) t h.third);
        r4 = subst (λ m. 1 ≤ m) (sym (root_height g n img)) high;
        whole = record { r2 = r2_holds g.pages n (erased g img) h.second; sound = record { rooted = root; tied = tied } };
      }

  pub held_ruled : Held g n img → Ruled g n img
  unfolding r1 r3 r4
  held_ruled h =
      let t = pages_of g n in
      record {
        first = none_lowest t (λ p. not (well_formed g img p)) (λ p q. rw (r1_page g n img p (h.r1 p q)) refl);
        second = holds_r2 g.pages n (erased g img) h.whole.r2;
        third = none_lowest t (repeated (erased g img) (seq_at g img)) (no_repeat g n img h.r3);
        fourth = unless_both _ _ _ (le-leb 1 (height_of g img (root_of g n img)) (subst (λ m. 1 ≤ m) (root_height g n img) h.r4)) refl;
        fifth = rooted_r5 g core t (chip_of g n img) h.whole.sound.rooted;
        sixth = tied_r6 t (chip_of g n img) h.whole.sound.tied;
      }

  -- a sound image is held, and R7 and R8 hold where they are asked
  sound_asked : 1 ≤ n → Image g n img → Small img → verdict g n img ≡ Sound
      → Held g n img × (asked g (r7 g.pages n (chip_of g n img)) ≡ Good) ×
      (asked g (r8 g.pages n (chip_of g n img)) ≡ Good)
  unfolding verdict
  sound_asked pos image bytes h =
      let a = or_sound _ _ _ h in
      let b = or_sound _ _ _ a.1 in
      let c = or_sound _ _ _ b.1 in
      let d = or_sound _ _ _ c.1 in
      let e = or_sound _ _ _ d.1 in
      let f = or_sound _ _ _ e.1 in
      let k = or_sound _ _ _ f.1 in
      let m = or_sound _ _ _ k.1 in (
        ruled_held pos image bytes (record { first = a.0; second = b.0; third = c.0; fourth = d.0; fifth = e.0; sixth = f.0 }),
        k.0,
        m.0,
      )

  asked_sound : Held g n img → asked g (r7 g.pages n (chip_of g n img)) ≡ Good
      → asked g (r8 g.pages n (chip_of g n img)) ≡ Good
      → verdict g n img ≡ Sound
  unfolding verdict
  asked_sound h s u =
      let w = held_ruled h in
      sound_or _ _ _ w.first (sound_or _ _ _ w.second (sound_or _ _ _ w.third (sound_or _ _ _ w.fourth (sound_or _ _ _ w.fifth
      (sound_or _ _ _ w.sixth (sound_or _ _ _ s (sound_or _ _ _ u refl)))))))

  -- of the plain tree's images they are not asked
  pub plain_held : 1 ≤ n → Image g n img → Small img → verdict g n img ≡ Sound → Held g n img
  plain_held pos image bytes h = (sound_asked pos image bytes h).0

  pub held_plain : g.table ≡ 2 → Held g n img → verdict g n img ≡ Sound
  held_plain e h = asked_sound h (not_asked g e _) (not_asked g e _)

  pub height_most : 1 ≤ pages_of g n → Held g n img → suc (chip_of g n img).level ≤ g.top
  height_most i h =
      let a = (h.r1 (root_at (pages_of g n) (views g img)) (root_in (pages_of g n) (views g img) i)).high in
      let b = h.r4 in
      let e = root_height g n img in
      omega (arith, a, b, e)

-- of a μ-Tree's images they are
module _ (g : Geometry) (shape : Shape g) (n : ℕ) (img : List ℕ) where
  abbrev core : Core g
  core = shape_core g shape

  is_asked : (f : Finding) → asked g f ≡ f
  unfolding asked
  is_asked f = rw (halved g shape) refl

  pub sound_held : 1 ≤ n → Image g n img → Small img → verdict g n img ≡ Sound → Held g n img ×
      R7 g n (chip_of g n img) × R8 g n (chip_of g n img)
  sound_held pos image bytes h = let z = sound_asked g core n img pos image bytes h in (
    z.0,
    r7_holds g n (chip_of g n img) (sym (is_asked _) ∙ z.1),
    r8_holds g (some_page g core) n (chip_of g n img) (sym (is_asked _) ∙ z.2),
  )

  pub held_sound : Held g n img → R7 g n (chip_of g n img) → R8 g n (chip_of g n img) → verdict g n img ≡ Sound
  held_sound h s u = asked_sound g core n img h (is_asked _ ∙ holds_r7 g n (chip_of g n img) s)
      (is_asked _ ∙ holds_r8 g (some_page g core) n (chip_of g n img) u)
