-- What is read of a page as one record, and the chip made of the records of all pages; root and largest number. No
-- bytes here. Assumes nothing.
use Rattle.std.specs.Prelude.{◌≡◌, refl, List, Bool, true, false, ℕ, zero, suc, ◌-◌, ◌<◌, ◌≤◌, eqb, leb, ltb}
use Rattle.std.proofs.Math.Path.{ap, sym}
use Rattle.std.proofs.Common.{◌∙◌, arith, le-leb, eq-eqb, ne_eqb, ltb-true, eqb-true}
use Rattle.geometry.specs.declared.Geometry.{Geometry}
use Rattle.geometry.specs.declared.Entry.{Entry}
use Rattle.geometry.specs.Tests.{pick}
use Rattle.model.specs.Count.{peak, arg}
use Rattle.model.specs.Image.{Chip}
use Rattle.model.specs.Next.{after}
use Rattle.theory_counts.specs.Least.{by_lt}
use Rattle.theory_counts.specs.Peak.{peak_at, arg_less}
use Rattle.theory_counts.specs.Cases.{by_eq, true_false}
use Rattle.theory_chips.specs.Erase.{in_b, blank_node, erase_block}

-- all that anyone reads of a page; an erased page reads as `(no_view g)`
pub record View : Type 0 where
  pub er : Bool
  pub seq : ℕ
  pub height : ℕ
  pub tail : Bool
  pub node : ℕ → List Entry

abbrev pub no_view : Geometry → View
no_view g = record { er = true; seq = 0; height = 0; tail = true; node = blank_node g }

pub peak_le : (n : ℕ) (f : ℕ → ℕ) (i : ℕ) → i < n → f i ≤ peak n f
unfolding peak
peak_le zero f i h = absurd (omega arith)
peak_le (suc n) f i h = by_eq i n (λ e. let q = ap f e in omega (arith, q)) (λ e. let q = peak_le n f i (omega arith) in
    omega (arith, q))

-- the first place where the largest stands
pub record Arg (n : ℕ) (f : ℕ → ℕ) (i : ℕ) : Type 0 where
  pub before : (j : ℕ) → j < i → f j < f i
  pub all : (j : ℕ) → j < n → f j ≤ f i
  pub inside : i < n

arg_all : (n : ℕ) (f : ℕ → ℕ) (j : ℕ) → j < n → f j ≤ f (arg n f)
arg_all n f j q = omega (arith, peak_le n f j q, peak_at f n (omega arith))

arg_before : (n : ℕ) (f : ℕ → ℕ) (j : ℕ) → j < arg n f → f j < f (arg n f)
unfolding arg
arg_before zero f j h = absurd (omega arith)
arg_before (suc n) f j h = go (ltb (f (arg n f)) (f n)) refl h (arg_before n f j)
  where
    go : (t : Bool) → ltb (f (arg n f)) (f n) ≡ t → j < pick t n (arg n f) → (j < arg n f → f j < f (arg n f))
        → f j < f (pick t n (arg n f))
    go true e q ih = omega (arith, arg_all n f j q, ltb-true (f (arg n f)) (f n) e)
    go false e q ih = ih q

pub arg_at : (n : ℕ) (f : ℕ → ℕ) → 1 ≤ n → Arg n f (arg n f)
arg_at n f h = record { before = arg_before n f; all = arg_all n f; inside = arg_less f n h }

arg_unique : (n : ℕ) (f : ℕ → ℕ) (i j : ℕ) → Arg n f i → Arg n f j → i ≡ j
arg_unique n f i j a b = by_lt i j
    (λ e. absurd (omega (arith, b.before i e, a.all j b.inside)))
    (λ e. by_lt j i (λ d. absurd (omega (arith, a.before j d, b.all i a.inside))) (λ d. omega arith))

-- a strictly largest one is found
pub arg_new : (n : ℕ) (f : ℕ → ℕ) (i : ℕ) → i < n → ((j : ℕ) → j < n → (j ≡ i → ⊥) → f j < f i) → arg n f ≡ i
arg_new n f i h s = arg_unique n f (arg n f) i (arg_at n f (omega arith)) (record {
  before = λ j q. s j (omega arith) (λ e. omega (arith, e));
  all = λ j q. by_eq j i (λ e. let y = ap f e in omega (arith, y)) (λ e. let z = s j q e in omega (arith, z));
  inside = h;
})

-- lowering others leaves it
arg_lower : (n : ℕ) (f h : ℕ → ℕ) → 1 ≤ n → ((j : ℕ) → h j ≤ f j) → h (arg n f) ≡ f (arg n f) → arg n h ≡ arg n f
arg_lower n f h p le e = let a = arg_at n f p in arg_unique n h (arg n h) (arg n f) (arg_at n h p) (record {
  before = λ j q. let x = a.before j q in let y = le j in omega (arith, x, y, e);
  all = λ j q. let x = a.all j q in let y = le j in omega (arith, x, y, e);
  inside = a.inside;
})

-- its number if it carries a root, else 0
abbrev pub score : View → ℕ
score w = pick (leb 1 w.height) w.seq 0

abbrev pub Views : Type 0
Views = ℕ → View

unfoldable pub top_of : ℕ → Views → ℕ
top_of t v = peak t (λ q. (v q).seq)

unfoldable pub root_at : ℕ → Views → ℕ
root_at t v = arg t (λ q. score (v q))

abbrev pub chip : ℕ → Views → Chip
chip t v = record { er = λ q. (v q).er; seq = λ q. (v q).seq; nodes = λ q l. (v q).node l; level = (v (root_at t v)).height - 1; root = root_at t v }

-- the two stores
abbrev pub laid : Views → ℕ → View → Views
laid v p w q = pick (eqb q p) w (v q)

abbrev pub wipe : Geometry → ℕ → Views → Views
wipe g b v q = pick (in_b g.pages b q) (no_view g) (v q)

-- a page with a root and the number max + 1, or a page without: what the abstract chip becomes
unfoldable pub rooted : Chip → ℕ → View → Chip
rooted c p w = record {
  er = after p c.er;
  seq = λ q. pick (eqb q p) w.seq (c.seq q);
  nodes = λ q j. pick (eqb q p) (w.node j) (c.nodes q j);
  level = w.height - 1;
  root = p;
}

unfoldable pub beside : Chip → ℕ → View → Chip
beside c p w = record {
  er = after p c.er;
  seq = λ q. pick (eqb q p) w.seq (c.seq q);
  nodes = λ q j. pick (eqb q p) (w.node j) (c.nodes q j);
  level = c.level;
  root = c.root;
}

-- a field of a picked view
pub picked : {A : Type 0} (f : View → A) (t : Bool) (x y : View) → f (pick t x y) ≡ pick t (f x) (f y)
picked f true x y = refl
picked f false x y = refl

pub score_le : (w : View) → score w ≤ w.seq
score_le w = go (leb 1 w.height)
  where
    go : (t : Bool) → pick t w.seq 0 ≤ w.seq
    go true = omega arith
    go false = omega arith

pub score_root : (w : View) → 1 ≤ w.height → score w ≡ w.seq
score_root w h = rw (le-leb 1 w.height h) refl

pub score_none : (w : View) → w.height ≡ 0 → score w ≡ 0
score_none w h = rw h refl

module _ (g : Geometry) (t : ℕ) (v : Views) (p : ℕ) (w : View) (written : w.er ≡ false) where
  pub put_er : (q : ℕ) → (laid v p w q).er ≡ after p (λ q. (v q).er) q
  put_er q = picked (λ (x : View). x.er) (eqb q p) w (v q) ∙ ap (λ b. pick (eqb q p) b (v q).er) written

  pub put_node : (q l : ℕ) → (laid v p w q).node l ≡ pick (eqb q p) (w.node l) ((v q).node l)
  put_node q l = picked (λ (x : View). x.node l) (eqb q p) w (v q)

  pub put_seq : (q : ℕ) → (laid v p w q).seq ≡ pick (eqb q p) w.seq (v q).seq
  put_seq q = picked (λ (x : View). x.seq) (eqb q p) w (v q)

  pub put_here : laid v p w p ≡ w
  put_here = rw (eq-eqb p p refl) refl

  put_there : (q : ℕ) → (q ≡ p → ⊥) → laid v p w q ≡ v q
  put_there q d = rw (ne_eqb q p d) refl

  -- N: its number is the largest plus 1
  pub root_new : p < t → 1 ≤ w.height → w.seq ≡ suc (top_of t v) → root_at t (laid v p w) ≡ p
  unfolding root_at top_of
  root_new h k s = arg_new t (λ q. score (laid v p w q)) p h (λ j q d.
      let a = ap score (put_there j d) in
      let b = ap score put_here in
      let x = score_le (v j) in
      let y = peak_le t (λ q. (v q).seq) j q in
      let z = score_root w k in
      omega (arith, a, b, x, y, z, s))

  -- a page without a root where nothing was
  pub root_beside : v p ≡ no_view g → w.height ≡ 0 → root_at t (laid v p w) ≡ root_at t v
  unfolding root_at
  root_beside n h = ap (arg t) (λ i q. same q i)
    where
      same : (q : ℕ) → score (laid v p w q) ≡ score (v q)
      same q = by_eq q p (λ e. ap (λ q. score (laid v p w q)) e ∙ ap score put_here ∙ score_none w h
          ∙ sym (ap (λ q. score (v q)) e ∙ ap score n))
          (λ e. ap score (put_there q e))

  pub chip_beside : v p ≡ no_view g → w.height ≡ 0 → chip t (laid v p w) ≡ beside (chip t v) p w
  unfolding beside
  chip_beside n h =
      let r = root_beside n h in
      let high : (q : ℕ) → (laid v p w q).height ≡ (v q).height = λ q. by_eq q p
      (λ e. ap (λ q. (laid v p w q).height) e ∙ ap (λ (x : View). x.height) put_here ∙ h
      ∙ sym (ap (λ q. (v q).height) e ∙ ap (λ (x : View). x.height) n)) (λ e. ap (λ (x : View). x.height) (put_there q e)) in
      let e : (laid v p w (root_at t (laid v p w))).height - 1 ≡ (v (root_at t v)).height - 1 = ap (λ n. n - 1)
      (high (root_at t (laid v p w)) ∙ ap (λ q. (v q).height) r) in
      λ i. record { er = λ q. put_er q i; seq = λ q. put_seq q i; nodes = λ q l. put_node q l i; level = e i; root = r i }

-- the erase of a block that the root is not in
pub root_wipe : (t : ℕ) (g : Geometry) (b : ℕ) (v : Views) → 1 ≤ t → in_b g.pages b (root_at t v) ≡ false
    → root_at t (wipe g b v) ≡ root_at t v
unfolding root_at
root_wipe t g b v h k = arg_lower t (λ q. score (v q)) (λ q. score (wipe g b v q)) h (λ j. low j (in_b g.pages b j))
    (ap (λ s. score (pick s (no_view g) (v (arg t (λ q. score (v q)))))) k)
  where
    low : (j : ℕ) (s : Bool) → score (pick s (no_view g) (v j)) ≤ score (v j)
    low j true = omega arith
    low j false = omega arith

pub chip_wipe : (t : ℕ) (g : Geometry) (b : ℕ) (v : Views) → 1 ≤ t → in_b g.pages b (root_at t v) ≡ false
    → chip t (wipe g b v) ≡ erase_block g b (chip t v)
unfolding erase_block
chip_wipe t g b v h k =
    let r = root_wipe t g b v h k in
    let e : (wipe g b v (root_at t (wipe g b v))).height - 1 ≡ (v (root_at t v)).height - 1 =
    ap (λ q. (wipe g b v q).height - 1) r
    ∙ ap (λ s. (pick s (no_view g) (v (root_at t v))).height - 1) k in
    λ i. record {
      er = λ q. picked (λ (x : View). x.er) (in_b g.pages b q) (no_view g) (v q) i;
      seq = λ q. picked (λ (x : View). x.seq) (in_b g.pages b q) (no_view g) (v q) i;
      nodes = λ q l. picked (λ (x : View). x.node l)
          (in_b g.pages b q) (no_view g) (v q) i;
      level = e i;
      root = r i;
    }

-- R1 and R3
pub record R1 (top : ℕ) (w : View) : Type 0 where
  pub high : w.height ≤ top
  pub rest : w.tail ≡ true
  pub some : w.er ≡ false → 1 ≤ w.seq

pub record R3 (t : ℕ) (v : Views) : Type 0 where
  pub differ : (p q : ℕ) → p < t → q < t → (v p).er ≡ false → (v q).er ≡ false → (v p).seq ≡ (v q).seq → p ≡ q

abbrev pub AllR1 : ℕ → ℕ → Views → Type 0
AllR1 top t v = (q : ℕ) → q < t → R1 top (v q)

pub r1_put : (top t : ℕ) (v : Views) (p : ℕ) (w : View) → AllR1 top t v → R1 top w → AllR1 top t (laid v p w)
r1_put top t v p w h k q i = go (eqb q p)
  where
    go : (s : Bool) → R1 top (pick s w (v q))
    go true = k
    go false = h q i

pub r1_wipe : (top t : ℕ) (g : Geometry) (b : ℕ) (v : Views) → AllR1 top t v → AllR1 top t (wipe g b v)
r1_wipe top t g b v h q i = go (in_b g.pages b q)
  where
    go : (s : Bool) → R1 top (pick s (no_view g) (v q))
    go true = record { high = omega arith; rest = refl; some = λ e. absurd (true_false true refl e) }
    go false = h q i

pub r3_put : (t : ℕ) (v : Views) (p : ℕ) (w : View) → R3 t v → w.seq ≡ suc (top_of t v) → R3 t (laid v p w)
unfolding top_of
r3_put t v p w h s = record { differ = λ a b ha hb ea eb e. go a b ha hb (eqb a p) (eqb b p) refl refl ea eb e }
  where
    low : (j : ℕ) → j < t → (v j).seq < w.seq
    low j q = let y = peak_le t (λ q. (v q).seq) j q in omega (arith, y, s)

    go : (a b : ℕ) → a < t → b < t → (x y : Bool) → eqb a p ≡ x → eqb b p ≡ y → (pick x w (v a)).er ≡ false
        → (pick y w (v b)).er ≡ false
        → (pick x w (v a)).seq ≡ (pick y w (v b)).seq → a ≡ b
    go a b ha hb true true ea eb fa fb e = eqb-true a p ea ∙ sym (eqb-true b p eb)
    go a b ha hb true false ea eb fa fb e = absurd (omega (arith, low b hb, e))
    go a b ha hb false true ea eb fa fb e = absurd (omega (arith, low a ha, e))
    go a b ha hb false false ea eb fa fb e = h.differ a b ha hb fa fb e

pub r3_wipe : (t : ℕ) (g : Geometry) (b : ℕ) (v : Views) → R3 t v → R3 t (wipe g b v)
r3_wipe t g b v h = record { differ = λ p q hp hq ep eq e. go p q hp hq (in_b g.pages b p) (in_b g.pages b q) ep eq e }
  where
    go : (p q : ℕ) → p < t → q < t → (x y : Bool) → (pick x (no_view g) (v p)).er ≡ false → (pick y (no_view g)
        (v q)).er ≡ false
        → (pick x (no_view g) (v p)).seq ≡ (pick y (no_view g) (v q)).seq → p ≡ q
    go p q hp hq true y a c e = absurd (true_false true refl a)
    go p q hp hq false true a c e = absurd (true_false true refl c)
    go p q hp hq false false a c e = h.differ p q hp hq a c e

-- R4: some page carries a root. Then the chosen one does
abbrev pub R4 : ℕ → Views → Type 0
R4 t v = 1 ≤ (v (root_at t v)).height

pub root_in : (t : ℕ) (v : Views) → 1 ≤ t → root_at t v < t
unfolding root_at
root_in t v h = (arg_at t (λ q. score (v q)) h).inside

pub r4_beside : (g : Geometry) (t : ℕ) (v : Views) (p : ℕ) (w : View) → w.er ≡ false → v p ≡ no_view g → w.height ≡ 0
    → R4 t v → R4 t (laid v p w)
r4_beside g t v p w e n h r = rw (root_beside g t v p w e n h) (by_eq (root_at t v) p
    (λ d. absurd (omega (arith, r, ap (λ q. (v q).height) d, ap (λ (x : View). x.height) n))) (λ d. rw (ne_eqb (root_at t v) p d) r))

pub r4_wipe : (t : ℕ) (g : Geometry) (b : ℕ) (v : Views) → 1 ≤ t → in_b g.pages b (root_at t v) ≡ false → R4 t v
    → R4 t (wipe g b v)
r4_wipe t g b v h k r = rw (root_wipe t g b v h k, k) r

-- the largest number grows by at most 1 at a program, and falls at an erase
pub peak_least : (n : ℕ) (f : ℕ → ℕ) (m : ℕ) → ((i : ℕ) → i < n → f i ≤ m) → peak n f ≤ m
unfolding peak
peak_least zero f m h = omega arith
peak_least (suc n) f m h = let a = h n (omega arith) in let b = peak_least n f m (λ i q. h i (omega arith)) in
    omega (arith, a, b)

pub max_put : (t : ℕ) (v : Views) (p : ℕ) (w : View) → w.seq ≤ suc (top_of t v) → top_of t (laid v p w) ≤ suc (top_of t v)
unfolding top_of
max_put t v p w h = peak_least t (λ q. (laid v p w q).seq) (suc (peak t (λ q. (v q).seq))) (λ i q. go i q (eqb i p))
  where
    go : (i : ℕ) → i < t → (s : Bool) → (pick s w (v i)).seq ≤ suc (peak t (λ q. (v q).seq))
    go i q true = h
    go i q false = let a = peak_le t (λ q. (v q).seq) i q in omega (arith, a)

pub max_wipe : (t : ℕ) (g : Geometry) (b : ℕ) (v : Views) → top_of t (wipe g b v) ≤ top_of t v
unfolding top_of
max_wipe t g b v = peak_least t (λ q. (wipe g b v q).seq) (peak t (λ q. (v q).seq)) (λ i q. go i q (in_b g.pages b i))
  where
    go : (i : ℕ) → i < t → (s : Bool) → (pick s (no_view g) (v i)).seq ≤ peak t (λ q. (v q).seq)
    go i q true = omega arith
    go i q false = peak_le t (λ q. (v q).seq) i q
