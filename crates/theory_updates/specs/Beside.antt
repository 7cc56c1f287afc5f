-- What is kept beside the image is what the image says, before and after a move; the move's store is the model's.
-- Assumes nothing.
use Rattle.std.specs.Prelude.{◌≡◌, refl, List, Bool, true, false, ◌⊎◌, ltb}
use Rattle.std.proofs.Math.Path.{ap, sym}
use Rattle.std.proofs.Common.{◌∙◌, inl, arith, mod-eq_of_lt}
use Prim.Native.Nat.{ℕ, suc, ◌+◌, ◌-◌, ◌*◌, ◌/◌, ◌%◌, ◌<◌, ◌≤◌, min}
use Rattle.std.proofs.Math.Nat.{mul-add-mod_self_left, mod_self}
use borrow.Author.Tests.{eq-eqb, ne_eqb, le-ltb}
use Rattle.geometry.specs.declared.Geometry.{Geometry}
use Rattle.geometry.specs.Tests.{pick, ◌&◌, and_right}
use Rattle.geometry.specs.Shape.{Shape, Core, shape_core}
use Rattle.geometry.specs.Bounds.{four_bytes}
use Rattle.model.specs.Bytes.{erased}
use Rattle.model.specs.Count.{count, least}
use Rattle.model.specs.Image.{pages_of, seq_of, max_seq, Chip, chip_of}
use Rattle.model.specs.Tree.{places_of, live, low_level}
use Rattle.model.specs.Next.{mixed, first_in, Ahead, ahead, round, next_block, next_page, after, onward}
use Rattle.theory_counts.specs.Least.{least_none}
use Rattle.theory_counts.specs.Cases.{by_eq, by_le, by_test, true_false}
use Rattle.theory_chips.specs.Count.{count_gone}
use Rattle.theory_chips.specs.Next.{R2, in_range, next_found, next_in, elsewhere, r2_next}
use Rattle.theory_chips.specs.Coming.{next_within, next_beyond}
use Rattle.theory_chips.specs.Whole.{some_page}
use Rattle.theory_images.specs.Held.{Held, root_height}
use Rattle.open_record.specs.declared.Opened.{Opened}
use Rattle.open_record.specs.Opened.{opened_in, level_by}
use Rattle.live_beside.specs.Table.{Table, low_in, Right}
use Rattle.live_beside.specs.Beside.{Held as Kept, Beside, beside_by, next_after}
use Rattle.theory_updates.specs.Level.{level_right}

-- ---- no page is left
none_true : (t : ℕ) (f : ℕ → Bool) → count t f ≡ 0 → (q : ℕ) → q < t → f q ≡ false
none_true t f h q i = by_test (f q) (λ e. absurd (omega (arith, count_gone t q f i e, h))) (λ e. e)

round_none : (n b : ℕ) (f : ℕ → Bool) → ((i : ℕ) → i < n → f i ≡ false) → round n b f ≡ n
unfolding round
round_none n b f h = go (ltb (least n (λ i. ltb b i & f i)) n)
  where
    higher : least n (λ i. ltb b i & f i) ≡ n
    higher = least_none (λ i. ltb b i & f i) n
        (λ i q. by_test (ltb b i & f i) (λ e. absurd (true_false (f i) (and_right _ _ e) (h i q))) (λ e. e))

    go : (t : Bool) → pick t (least n (λ i. ltb b i & f i)) (least n f) ≡ n
    go true = higher
    go false = least_none f n h

-- then the next page lies past the image
pub next_past : (p n : ℕ) (w : Ahead) → 1 ≤ p → count (p * n) w.er ≡ 0 → p * n ≤ next_page p n w
unfolding next_block
next_past p n w pos h =
    let none : (c i : ℕ) → c < n → i < p → w.er (p * c + i) ≡ false =
    λ c i q z. none_true (p * n) w.er h (p * c + i) (in_range p n c i q z) in
    let m : least n (mixed p w.er) ≡ n = least_none (mixed p w.er) n
    (λ c q. last (w.er (p * c + 0)) (w.er (p * c + (p - 1))) (none c (p - 1) q (omega arith))) in
    let t : ltb (least n (mixed p w.er)) n ≡ false = rw m (le-ltb n n (omega arith)) in
    let z : next_block p n w ≡ n = rw t (round_none n (w.last / p) (λ b. w.er (p * b + 0)) (λ c q. none c 0 q (omega arith))) in
    rw z (omega arith)
  where
    last : (t u : Bool) → u ≡ false → pick t false u ≡ false
    last true u e = refl
    last false u e = e

-- the page after the next one, once that is programmed and while one is left. p is a block's pages
pub next_after_lem : (p n : ℕ) (w : Ahead) → 1 ≤ p → R2 p n w.er → 1 ≤ count (p * n) w.er
    → 1 ≤ count (p * n) (after (next_page p n w) w.er)
    → next_after p n (after (next_page p n w) w.er) (next_page p n w) ≡ next_page p n (onward (next_page p n w) w)
unfolding next_after
next_after_lem p n w pos r2 free some =
    let b = next_block p n w in
    let j = first_in p w.er b in
    let N = next_page p n w in
    let inside : j < p = (next_found p n w pos r2 free).1 in
    by_eq (suc j) p
    (λ e. let z : suc N ≡ p * b + p = omega (arith, e) in
    let r : suc N % p ≡ 0 = ap (λ (x : ℕ). x % p) z ∙ mul-add-mod_self_left p b p ∙ mod_self p in
    rw (eq-eqb (suc N % p) 0 r) (sym (next_beyond p n w pos r2 free e some)))
    (λ e. let z : suc N ≡ p * b + suc j = omega arith in
    let r : suc N % p ≡ suc j = ap (λ (x : ℕ). x % p) z ∙ mul-add-mod_self_left p b (suc j)
    ∙ mod-eq_of_lt (let v : suc j < p = omega (arith, e, inside) in v) in
    rw (ne_eqb (suc N % p) 0 (λ v. omega (arith, r, v))) (sym (next_within p n w pos r2 free (omega (arith, e, inside)))))

-- the same whether a page is left or not: T where none is
pub next_least : (p n : ℕ) (w : Ahead) → 1 ≤ p → R2 p n w.er → 1 ≤ count (p * n) w.er
    → next_after p n (after (next_page p n w) w.er) (next_page p n w) ≡ min (p * n) (next_page p n
    (onward (next_page p n w) w))
unfolding next_after
next_least p n w pos r2 free =
    by_le 1 (count (p * n) er')
    (λ some. let z = next_in p n (onward N w) pos r2' some in next_after_lem p n w pos r2 free some ∙ omega (arith, z))
    (λ less. let none : count (p * n) er' ≡ 0 = omega (arith, less) in
    last none ∙ (let z = next_past p n (onward N w) pos none in omega (arith, z)))
  where
    b : ℕ
    b = next_block p n w

    j : ℕ
    j = first_in p w.er (next_block p n w)

    N : ℕ
    N = next_page p n w

    er' : ℕ → Bool
    er' = after (next_page p n w) w.er

    found : (next_block p n w < n) × (first_in p w.er (next_block p n w) < p) × (w.er (next_page p n w) ≡ true)
    found = next_found p n w pos r2 free

    r2' : R2 p n (after (next_page p n w) w.er)
    r2' = r2_next p n w pos r2 found.0 found.1

    last : count (p * n) er' ≡ 0 → next_after p n er' N ≡ p * n
    last none = by_eq (suc j) p
        (λ e. let z : suc N ≡ p * b + p = omega (arith, e) in
        let r : suc N % p ≡ 0 = ap (λ (x : ℕ). x % p) z ∙ mul-add-mod_self_left p b p ∙ mod_self p in
        let x : round n (N / p) (λ c. er' (p * c + 0)) ≡ n = round_none n (N / p) (λ c. er' (p * c + 0))
        (λ c q. none_true (p * n) er' none (p * c + 0) (in_range p n c 0 q (omega arith))) in
        rw (eq-eqb (suc N % p) 0 r, x) refl)
        (λ e. let i : suc j < p = omega (arith, e, found.1) in
        let x = elsewhere p n w pos r2 found.0 found.1 b (suc j) i (λ _ z. omega (arith, z)) ∙ r2.mono b j
        (suc j) found.0 (omega arith) i found.2 in
        absurd (true_false (er' (p * b + suc j)) x (none_true (p * n) er' none (p * b + suc j) (in_range p n b (suc j) found.0 i))))

-- what is kept is what the image says; o the record at the sweep's start
pub record Tracks (g : Geometry) (n : ℕ) (o : Opened) (img : List ℕ) (h : Beside) : Type 0 where
  pub root_is : h.root ≡ (chip_of g n img).root
  pub most_is : h.most ≡ max_seq g n img
  pub level_is : h.level ≡ (chip_of g n img).level
  pub next_is : h.next ≡ min (pages_of g n) (next_page g.pages n (ahead g n (chip_of g n img)))
  pub right : Right g n img h.table
  -- each move programs one page and takes one number
  pub sum_is : count (pages_of g n) (chip_of g n img).er + h.most ≡ o.erased + o.most
  pub grown : o.most ≤ h.most
  pub height_is : o.height ≡ suc h.level
  -- nothing has moved, or the root's page has the largest number
  pub crest : ((h.most ≡ o.most) × (seq_of g img h.root ≡ o.number)) ⊎ (seq_of g img h.root ≡ h.most)

-- the next page while one is left
pub next_of : (g : Geometry) → Shape g → (n : ℕ) (o : Opened) (img : List ℕ) (h : Beside) → Held g n img
    → Tracks g n o img h
    → 1 ≤ count (pages_of g n) (chip_of g n img).er → h.next ≡ next_page g.pages n (ahead g n (chip_of g n img))
next_of g shape n o img h held t free =
    let z = next_in g.pages n (ahead g n (chip_of g n img)) (some_page g (shape_core g shape)) held.whole.r2 free in
    t.next_is ∙ omega (arith, z)

-- the record of the image, with a right table
pub tracks_fresh : (g : Geometry) → Core g → (n : ℕ) (img : List ℕ) (h : Kept) → Held g n img → h.at ≡ opened_in g n img
    → Right g n img h.table
    → Tracks g n h.at img (beside_by g n h)
unfolding opened_in
tracks_fresh g core n img h held e r = record {
  root_is = ap (λ (o : Opened). o.root) e;
  most_is = ap (λ (o : Opened). o.most) e;
  level_is = ap (level_by g) e ∙ level_right g core n img held;
  next_is = let z = ap (λ (o : Opened). o.next) e in omega (arith, z);
  right = r;
  sum_is = let z = ap (λ (o : Opened). o.erased) e in omega (arith, z);
  grown = omega arith;
  height_is = let z = ap (λ (o : Opened). o.height) e in let y = root_height g n img in let x = held.r4 in
      let w = ap (level_by g) e ∙ level_right g core n img held in omega (arith, x, y, z, w);
  crest = inl (refl, ap (λ (o : Opened). seq_of g img o.root) e ∙ sym (ap (λ (o : Opened). o.number) e));
}

-- the level noted for a page of the image
pub low_in_lem : (g : Geometry) (n : ℕ) (img : List ℕ) (t : Table) (q : ℕ) → q < pages_of g n → Right g n img t → low_in t q ≡ low_level (places_of (chip_of g n img)) q
low_in_lem g n img t q q-in r = r.marked.lows q (let z = r.room in omega (arith, z, q-in))

module _ (g : Geometry) (shape : Shape g) (n : ℕ) (few : pages_of g n + g.pages < four_bytes) (img : List ℕ)
    (held : Held g n img) (q : ℕ)
    (q-in : q < pages_of g n) (free : 1 ≤ count (pages_of g n) (chip_of g n img).er)
    (alive : live (places_of (chip_of g n img)) q ≡ true)
    (low : suc (max_seq g n img) < 4294967295) where
  abbrev c : Chip
  c = chip_of g n img

  abbrev N : ℕ
  N = next_page g.pages n (ahead g n c)
