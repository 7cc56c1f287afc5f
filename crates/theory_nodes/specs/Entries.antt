-- Lists of entries: joined lists, keys that rise, and where descent stands in such a list. Assumes nothing.
use Rattle.std.specs.Prelude.{◌≡◌, refl, ℕ, zero, suc, ◌<◌, ◌≤◌, length, take, drop}
use Rattle.std.proofs.Common.{ap, sym, subst, ◌∙◌, arith}
use mathlib.Core.List.{List, [], ◌∷◌, ◌++◌, append_assoc}
use Rattle.std.proofs.Math.Seq.{split_at}
use Rattle.geometry.specs.declared.Entry.{Entry}
use Rattle.model.specs.Tree.{gather, following, entry_of, place, chosen}
use Rattle.model.specs.Edit.{splice}
use Rattle.model.specs.Halving.{place_is, swap_cut}
use Rattle.theory_lists.specs.All.{All, all_left, all_right, all_append, all_map}

abbrev pub In : ℕ → ℕ → Entry → Type 0
In lo hi e = (lo ≤ e.key) × (e.key < hi)

-- the keys rise strictly and stay below hi; P holds of each entry with the key that follows it
abbrev pub Rises : (ℕ → Entry → Type 0) → ℕ → List Entry → Type 0
Rises P hi [] = Unit {0}
Rises P hi (e ∷ es) = (e.key < following es hi) × P (following es hi) e × Rises P hi es

-- ---- lists

pub gather_append : {A : Type 0} (d : Entry → List A) (xs ys : List Entry)
    → gather d (xs ++ ys) ≡ gather d xs ++ gather d ys
unfolding gather
gather_append d [] ys = refl
gather_append d (x ∷ xs) ys = rw (gather_append d xs ys, append_assoc)

pub gather_eq : {A : Type 0} (d d' : Entry → List A) (es : List Entry) → All (λ e. d' e ≡ d e) es
    → gather d' es ≡ gather d es
unfolding gather
gather_eq d d' [] h = refl
gather_eq d d' (e ∷ es) h = rw (h.0, gather_eq d d' es h.1)

pub gather_one : (es : List Entry) → gather (λ e. e ∷ []) es ≡ es
unfolding gather
gather_one [] = refl
gather_one (e ∷ es) = ap (λ l. e ∷ l) (gather_one es)

pub gather_all : {A : Type 0} (W : A → Type 0) (d : Entry → List A) (es : List Entry) → All (λ e. All W (d e)) es
    → All W (gather d es)
unfolding gather
gather_all W d [] h = tt
gather_all W d (e ∷ es) h = all_append W (d e) (gather d es) h.0 (gather_all W d es h.1)

pub all_gather : {A : Type 0} (W : A → Type 0) (d : Entry → List A) (es : List Entry) → All W (gather d es)
    → All (λ e. All W (d e)) es
unfolding gather
all_gather W d [] h = tt
all_gather W d (e ∷ es) h = (all_left W (d e) (gather d es) h, all_gather W d es (all_right W (d e) (gather d es) h))

-- ---- rising lists

pub next_append : (xs ys : List Entry) (hi : ℕ) → following (xs ++ ys) hi ≡ following xs (following ys hi)
next_append [] ys hi = refl
next_append (x ∷ xs) ys hi = refl

pub rises_append : (P : ℕ → Entry → Type 0) (hi : ℕ) (xs ys : List Entry) → Rises P (following ys hi) xs → Rises P hi ys
    → Rises P hi (xs ++ ys)
rises_append P hi [] ys h i = i
rises_append P hi (x ∷ xs) ys h i = rw (next_append xs ys hi) (h.0, h.1, rises_append P hi xs ys h.2 i)

pub rises_left : (P : ℕ → Entry → Type 0) (hi : ℕ) (xs ys : List Entry) → Rises P hi (xs ++ ys)
    → Rises P (following ys hi) xs
rises_left P hi [] ys h = tt
rises_left P hi (x ∷ xs) ys h = let h' = rw (next_append xs ys hi) at h in (h'.0, h'.1, rises_left P hi xs ys h.2)

pub rises_right : (P : ℕ → Entry → Type 0) (hi : ℕ) (xs ys : List Entry) → Rises P hi (xs ++ ys) → Rises P hi ys
rises_right P hi [] ys h = h
rises_right P hi (x ∷ xs) ys h = rises_right P hi xs ys h.2

-- the entries' own keys lie below hi, and what follows an entry is at most hi
pub next_le : (P : ℕ → Entry → Type 0) (hi : ℕ) (es : List Entry) → Rises P hi es → following es hi ≤ hi
next_le P hi [] h = omega arith
next_le P hi (e ∷ es) h = let i = next_le P hi es h.2 in omega arith

pub rises_map : (P Q : ℕ → Entry → Type 0) (hi : ℕ) (es : List Entry) → ((y : ℕ) (x : Entry) → x.key < y → y ≤ hi
    → P y x → Q y x) → Rises P hi es
    → Rises Q hi es
rises_map P Q hi [] s h = tt
rises_map P Q hi (e ∷ es) s h = (h.0, s (following es hi) e h.0 (next_le P hi es h.2) h.1, rises_map P Q hi es s h.2)

pub rises_all : (P : ℕ → Entry → Type 0) (Z : Entry → Type 0) (hi : ℕ) (es : List Entry)
    → ((y : ℕ) (x : Entry) → x.key < y → y ≤ hi → P y x → Z x)
    → Rises P hi es → All Z es
rises_all P Z hi [] s h = tt
rises_all P Z hi (e ∷ es) s h = (s (following es hi) e h.0 (next_le P hi es h.2) h.1, rises_all P Z hi es s h.2)

pub rises_both : (P : ℕ → Entry → Type 0) (Z : Entry → Type 0) (hi : ℕ) (es : List Entry) → Rises P hi es → All Z es
    → Rises (λ y x. P y x × Z x) hi es
rises_both P Z hi [] h i = tt
rises_both P Z hi (e ∷ es) h i = (h.0, (h.1, i.0), rises_both P Z hi es h.2 i.1)

-- a higher bound: what held of the last entry must hold with the higher one too
pub rises_more : (P Q : ℕ → Entry → Type 0) (hi hi' : ℕ) (es : List Entry) → hi ≤ hi'
    → ((y y' : ℕ) (x : Entry) → x.key < y → y ≤ y' → P y x → Q y' x) → Rises P hi es → Rises Q hi' es
rises_more P Q hi hi' [] q s h = tt
rises_more P Q hi hi' (e ∷ []) q s h = (omega arith, s hi hi' e h.0 q h.1, tt)
rises_more P Q hi hi' (e ∷ g ∷ es) q s h =
    (h.0, s g.key g.key e h.0 (omega arith) h.1, rises_more P Q hi hi' (g ∷ es) q s h.2)

-- what starts at lo or later has every key at lo or later
pub rises_floor : (P : ℕ → Entry → Type 0) (lo hi : ℕ) (es : List Entry) → lo ≤ following es hi → Rises P hi es
    → Rises (λ y x. P y x × (lo ≤ x.key)) hi es
rises_floor P lo hi [] q h = tt
rises_floor P lo hi (e ∷ es) q h = (h.0, (h.1, q), rises_floor P lo hi es (omega arith) h.2)

pub gather_in : (d : Entry → List Entry) (lo hi : ℕ) (es : List Entry) → lo ≤ following es hi
    → Rises (λ y x. All (In x.key y) (d x)) hi es
    → All (In lo hi) (gather d es)
unfolding gather
gather_in d lo hi [] q h = tt
gather_in d lo hi (e ∷ es) q h =
    let b = next_le (λ y x. All (In x.key y) (d x)) hi es h.2 in
    all_append (In lo hi) (d e) (gather d es)
    (all_map (In e.key (following es hi)) (In lo hi) (d e) (λ x i. omega (arith, i, b)) h.1)
    (gather_in d lo hi es (omega arith) h.2)

-- where descent stands: the entries before, the chosen one x, the entries after; S f is the list with f x for x
pub record Split (P : ℕ → Entry → Type 0) (k hi : ℕ) (es : List Entry) (x : Entry) (S : (Entry → List Entry)
    → List Entry) : Type 0 where
  pub pre : List Entry
  pub post : List Entry
  pub whole : es ≡ pre ++ (x ∷ post)
  pub spliced : (f : Entry → List Entry) → S f ≡ pre ++ (f x ++ post)
  pub before : Rises P x.key pre
  pub upto : (0 < length pre) → x.key ≤ k
  pub under : k < following post hi
  pub up : x.key < following post hi
  pub here : P (following post hi) x
  pub rest : Rises P hi post

next_drop : (k hi i : ℕ) (es : List Entry) → k < hi → (i < length es → k < (entry_of es i).key) → k < following (drop i es) hi
next_drop k hi zero [] q f = q
next_drop k hi zero (e ∷ es) q f = f (omega arith)
next_drop k hi (suc i) [] q f = q
next_drop k hi (suc i) (e ∷ es) q f = next_drop k hi i es q (λ h. f (omega arith))

pub some_before : (i : ℕ) (es : List Entry) → 0 < length (take i es) → 0 < i
some_before zero es h = h
some_before (suc i) es h = omega arith

pub split : (P : ℕ → Entry → Type 0) (k hi : ℕ) (es : List Entry) → 0 < length es → k < hi → Rises P hi es
    → Split P k hi es (chosen k es) (λ f. splice f k es)
unfolding chosen splice
split P k hi es n q h =
    let i = place k es in
    let at = place_is k es n in
    let w = split_at es i (record { key = 0; addr = 0 }) at.inside in
    let up = subst (Rises P hi) w h in
    let r = rises_right P hi (take i es) (entry_of es i ∷ drop (suc i) es) up in
    record {
      pre = take i es;
      post = drop (suc i) es;
      whole = w;
      spliced = λ f. swap_cut f i es at.inside;
      before = rises_left P hi (take i es) (entry_of es i ∷ drop (suc i) es) up;
      upto = λ z. at.low (some_before i es z);
      under = next_drop k hi (suc i) es q at.high;
      up = r.0;
      here = r.1;
      rest = r.2;
    }

-- a splice hangs on what it makes of the chosen entry alone
pub splice_cong : (P : ℕ → Entry → Type 0) (f g : Entry → List Entry) (k hi : ℕ) (es : List Entry) → 0 < length es
    → k < hi → Rises P hi es
    → f (chosen k es) ≡ g (chosen k es) → splice f k es ≡ splice g k es
splice_cong P f g k hi es n q h e = go (split P k hi es n q h)
  where
    go : Split P k hi es (chosen k es) (λ f. splice f k es) → splice f k es ≡ splice g k es
    go s = s.spliced f ∙ ap (λ m. s.pre ++ (m ++ s.post)) e ∙ sym (s.spliced g)

pub first_below : (P : ℕ → Entry → Type 0) (y : ℕ) (es : List Entry) → 1 ≤ length es → Rises P y es → following es 0 < y
first_below P y [] n h = absurd (omega arith)
first_below P y (e ∷ es) n h = omega (arith, next_le P y es h.2)

-- what is joined keeps the bounds of its parts
module _ (k : ℕ) (P : ℕ → Entry → Type 0) (d : Entry → List Entry)
    (range : (y : ℕ) (x : Entry) → x.key < y → P y x → All (In x.key y) (d x)) where
  -- from lo on
  pub rises_in : (lo hi : ℕ) (es : List Entry) → lo ≤ following es hi → Rises P hi es → All (In lo hi) (gather d es)
  rises_in lo hi es q h = gather_in d lo hi es q (rises_map P (λ y x. All (In x.key y) (d x)) hi es (λ y x q _ i. range y x q i) h)

  -- below k, of the entries before the chosen one
  pub pre_in : (z : ℕ) (pre : List Entry) → ((0 < length pre) → z ≤ k) → Rises P z pre → All (In 0 k) (gather d pre)
  unfolding gather
  pre_in z [] u h = tt
  pre_in z (e ∷ pre) u h = let b = u (omega arith) in
      all_map (In 0 z) (In 0 k) (gather d (e ∷ pre)) (λ x i. omega (arith, i, b))
      (rises_in 0 z (e ∷ pre) (omega arith) h)
