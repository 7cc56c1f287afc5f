-- With insertions only every node below the root is at least half full, and each split adds one node: how many nodes
-- there are. Assumes nothing.
use Rattle.std.specs.Prelude.{◌≡◌, Bool, true, false, take, drop, leb, is_none}
use Rattle.std.proofs.Math.Path.{refl, ap}
use Rattle.std.proofs.Common.{sym, subst, ◌∙◌, mul-suc, mul-zero, add-mul, take-append-drop, length-take, length-drop, leb-true, leb-false}
use mathlib.Core.List.{List, [], ◌∷◌, ◌++◌}
use Prim.Native.Nat.{ℕ, zero, suc, ◌+◌, ◌*◌, ◌<◌, ◌≤◌, min}
use native.Mathlib.Omega.{arith}
use Rattle.std.proofs.Math.Nat.{mul-add, mul-le-mul_left, mul-le-mul_right}
use Rattle.std.proofs.Math.ListN.{length, length-append}
use Rattle.geometry.specs.declared.Entry.{Entry}
use Rattle.geometry.specs.Tests.{pick, bit}
use Rattle.model.specs.Image.{Nodes}
use Rattle.model.specs.Tree.{gather, under, Place, places, following, chosen, find}
use Rattle.model.specs.Edit.{splice, put, put_in, turn, path_half, side_half, two, gains, splits}
use Rattle.theory_counts.specs.Cases.{by_test}
use Rattle.theory_lists.specs.All.{All, all_append, all_map, all_left, all_right}
use Rattle.theory_nodes.specs.Entries.{Rises, all_gather, gather_append, gather_eq, rises_all, Split, split}
use Rattle.theory_nodes.specs.Nodes.{Ok, places_same}
use Rattle.theory_trees.specs.Edit.{edit, at_root, Made, no_places}
use Rattle.theory_trees.specs.Insert.{Halves, inserted, InsertMade}
use Rattle.theory_trees.specs.Splits.{over, long}
use Rattle.theory_trees.specs.Seek.{find_list}
use Rattle.theory_trees.specs.Like.{Likes, Like, likes_length}

-- a live node is at least half full
abbrev pub Filled : (ℕ → ℕ) → Nodes → Place → Type 0
Filled half r x = half x.level ≤ length (r x.page x.level)

-- ---- alike trees have as many nodes, and are filled alike
module _ (half : ℕ → ℕ) (r s : Nodes) where
  likes_nodes : (d d' : Entry → List Place) (xs ys : List Entry) → Likes (λ x y. length (d x) ≡ length (d' y)) xs ys
      → length (gather d xs) ≡ length (gather d' ys)
  unfolding gather
  likes_nodes d d' [] [] h = refl
  likes_nodes d d' [] (y ∷ ys) h = absurd h
  likes_nodes d d' (x ∷ xs) [] h = absurd h
  likes_nodes d d' (x ∷ xs) (y ∷ ys) h = let i = likes_nodes d d' xs ys h.1 in
      omega (arith, i, h.0, length-append (d x) (gather d xs), length-append (d' y) (gather d' ys))

  likes_map : (R S : Entry → Entry → Type 0) (xs ys : List Entry) → ((x y : Entry) → R x y → S x y) → Likes R xs ys
      → Likes S xs ys
  likes_map R S [] [] f h = tt
  likes_map R S [] (y ∷ ys) f h = absurd h
  likes_map R S (x ∷ xs) [] f h = absurd h
  likes_map R S (x ∷ xs) (y ∷ ys) f h = (f x y h.0, likes_map R S xs ys f h.1)

  like_nodes : (l : ℕ) (e e' : Entry) → Like r s l e e' → length (places r l e) ≡ length (places s l e')
  unfolding Like places
  like_nodes zero e e' h = refl
  like_nodes (suc l) e e' h = ap suc (likes_nodes (places r l) (places s l) (r e.addr (suc l)) (s e'.addr (suc l))
      (likes_map (Like r s l) (λ x y. length (places r l x) ≡ length (places s l y)) (r e.addr (suc l)) (s e'.addr (suc l))
      (λ x y. like_nodes l x y) h.1))

  pub list_nodes_like : (l : ℕ) (xs ys : List Entry) → Likes (Like r s l) xs ys → length (gather (places r l) xs)
      ≡ length (gather (places s l) ys)
  list_nodes_like l xs ys h = likes_nodes (places r l) (places s l) xs ys
      (likes_map (Like r s l) (λ x y. length (places r l x) ≡ length (places s l y)) xs ys (λ x y. like_nodes l x y) h)

  likes_filled : (d d' : Entry → List Place) (xs ys : List Entry) → Likes (λ x y. All (Filled half r) (d x)
      → All (Filled half s) (d' y)) xs ys
      → All (Filled half r) (gather d xs) → All (Filled half s) (gather d' ys)
  unfolding gather
  likes_filled d d' [] [] h a = tt
  likes_filled d d' [] (y ∷ ys) h a = absurd h
  likes_filled d d' (x ∷ xs) [] h a = absurd h
  likes_filled d d' (x ∷ xs) (y ∷ ys) h a =
      all_append (Filled half s) (d' y) (gather d' ys) (h.0 (all_left (Filled half r) (d x) (gather d xs) a))
      (likes_filled d d' xs ys h.1 (all_right (Filled half r) (d x) (gather d xs) a))

  like_filled : (l : ℕ) (e e' : Entry) → Like r s l e e' → All (Filled half r) (places r l e) → All (Filled half s)
      (places s l e')
  unfolding Like places
  like_filled zero e e' h a = tt
  like_filled (suc l) e e' h a = (
    (let z = likes_length (Like r s l) (r e.addr (suc l)) (s e'.addr (suc l)) h.1 in omega (arith, z, a.0)),
    likes_filled (places r l) (places s l) (r e.addr (suc l)) (s e'.addr (suc l))
        (likes_map (Like r s l) (λ x y. All (Filled half r) (places r l x) → All (Filled half s) (places s l y)) (r e.addr (suc l))
        (s e'.addr (suc l)) (λ x y. like_filled l x y) h.1) a.1,
  )

  pub list_filled_like : (l : ℕ) (xs ys : List Entry) → Likes (Like r s l) xs ys → All (Filled half r)
      (gather (places r l) xs)
      → All (Filled half s) (gather (places s l) ys)
  list_filled_like l xs ys h = likes_filled (places r l) (places s l) xs ys
      (likes_map (Like r s l) (λ x y. All (Filled half r) (places r l x) → All (Filled half s) (places s l y)) xs ys (λ x y. like_filled l x y) h)

-- ---- an insertion
pub halves_filled : (k m h : ℕ) (c : List Entry) → h ≤ m → m + h ≤ length c → (h ≤ length (path_half k m c)) × (h ≤ length (side_half k m c))
halves_filled k m h c a b = go (turn k m c)
  where
    go : (t : Bool) → (h ≤ length (pick t (drop m c) (take m c))) × (h ≤ length (pick t (take m c) (drop m c)))
    go true = omega (arith, length-take m c, length-drop m c, a, b)
    go false = omega (arith, length-take m c, length-drop m c, a, b)

pub none_nodes : (s : Nodes) (es : List Entry) → length (gather (places s 0) es) ≡ 0
unfolding gather places
none_nodes s [] = refl
none_nodes s (e ∷ es) = none_nodes s es

-- a tree that is a leaf has none below it
pub bare_nodes : (r : Nodes) (l : ℕ) (es : List Entry) → l ≡ 0 → length (gather (places r l) es) ≡ 0
bare_nodes r l es e = ap (λ m. length (gather (places r m) es)) e ∙ none_nodes r es

pub bare_all : (W : Place → Type 0) (r : Nodes) (l : ℕ) (es : List Entry) → l ≡ 0 → All W (gather (places r l) es)
bare_all W r l es e = subst (λ m. All W (gather (places r m) es)) (sym e) (no_places W r es)

one_node : (s : Nodes) (l z q : ℕ) (c : List Entry) → s q (suc l) ≡ c
    → length (gather (places s (suc l)) (record { key = z; addr = q } ∷ [])) ≡ suc (length (gather (places s l) c))
unfolding gather places
one_node s l z q c e =
    let u = length-append (gather (places s l) (s q (suc l))) [] in
    let v = ap (λ m. length (gather (places s l) m)) e in
    omega (arith, u, v)

-- the chosen entry's nodes give way to others
splice_nodes : (P : ℕ → Entry → Type 0) (d d' : Entry → List Place) (f : Entry → List Entry)
    (k hi : ℕ) (es : List Entry) → 0 < length es → k < hi
    → ((y : ℕ) (x : Entry) → P y x → d' x ≡ d x) → Rises P hi es
    → length (gather d' (splice f k es)) + length (d (chosen k es)) ≡ length (gather d es) + length (gather d'
    (f (chosen k es)))
unfolding gather
splice_nodes P d d' f k hi es n q same h = go (split P k hi es n q h)
  where
    sames : (y : ℕ) (xs : List Entry) → Rises P y xs → gather d' xs ≡ gather d xs
    sames y xs i = gather_eq d d' xs (rises_all P (λ x. d' x ≡ d x) y xs (λ y x _ _ j. same y x j) i)

    go : Split P k hi es (chosen k es) (λ f. splice f k es)
        → length (gather d' (splice f k es)) + length (d (chosen k es)) ≡ length (gather d es) + length (gather d'
        (f (chosen k es)))
    go s =
        let x = chosen k es in
        let a = ap (λ m. length (gather d' m)) (s.spliced f) ∙ ap length (gather_append d' s.pre (f x ++ s.post))
        ∙ length-append (gather d' s.pre) (gather d' (f x ++ s.post)) in
        let b = ap length (gather_append d' (f x) s.post) ∙ length-append (gather d' (f x)) (gather d' s.post) in
        let c = ap (λ m. length (gather d m)) s.whole ∙ ap length (gather_append d s.pre (x ∷ s.post))
        ∙ length-append (gather d s.pre) (d x ++ gather d s.post) in
        let e = length-append (d x) (gather d s.post) in
        let u = ap length (sames x.key s.pre s.before) in
        let v = ap length (sames hi s.post s.rest) in
        omega (arith, a, b, c, e, u, v)

module _ (k a n top : ℕ) (side half most : ℕ → ℕ) (r s : Nodes) (fit fit' : ℕ → ℕ → Type 0) (Cut : ℕ → Type 0)
    (fit_n : (l : ℕ) → fit' (suc l) n)
    (fit-a : fit' 0 a)
    (keep : (l a : ℕ) → fit l a → fit' l a) (same : (p l : ℕ) → fit (suc l) p → s p (suc l) ≡ r p (suc l))
    (k_top : k < top) where
  abbrev room_at : ℕ → ℕ
  room_at l = 2 * half l

  abbrev inserts : ℕ → Entry → List Entry
  inserts = inserted r k a n side half

  -- ---- how many nodes
  pub two_nodes : (l m z : ℕ) (c : List Entry) → Halves k n side s fit' (suc l) m c
      → length (gather (places s (suc l)) (two k n (side (suc l)) m z c)) ≡ 2 + length (gather (places s l) c)
  unfolding gather places
  two_nodes l m z c h = go (turn k m c) h.0 h.1
    where
      both : length (gather (places s l) (take m c)) + length (gather (places s l) (drop m c))
          ≡ length (gather (places s l) c)
      both = let x = ap length (gather_append (places s l) (take m c) (drop m c))
          ∙ length-append (gather (places s l) (take m c))
          (gather (places s l) (drop m c)) in
          let y = ap (λ e. length (gather (places s l) e)) (take-append-drop m c) in omega (arith, x, y)

      join : (p q : ℕ) (xs ys : List Entry) → s p (suc l) ≡ xs → s q (suc l) ≡ ys
          → length (record { page = p; level = suc l } ∷ gather (places s l) (s p (suc l)) ++
          (record { page = q; level = suc l } ∷ gather (places s l) (s q (suc l)) ++ []))
          ≡ 2 + (length (gather (places s l) xs) + length (gather (places s l) ys))
      join p q xs ys e f =
          let u = length-append (gather (places s l) (s p (suc l))) (record { page = q; level = suc l } ∷ gather (places s l) (s q (suc l)) ++ []) in
          let v = length-append (gather (places s l) (s q (suc l))) [] in
          let x = ap (λ m. length (gather (places s l) m)) e in
          let y = ap (λ m. length (gather (places s l) m)) f in
          omega (arith, u, v, x, y)

      go : (t : Bool) → s n (suc l) ≡ pick t (drop m c) (take m c) → s (side (suc l)) (suc l) ≡ pick t (take m c)
          (drop m c)
          → length (gather (places s (suc l)) (record { key = z; addr = pick t (side (suc l)) n } ∷
          record { key = following (drop m c) 0; addr = pick t n (side (suc l)) } ∷ [])) ≡ 2 + length (gather (places s l) c)
      go true i j = let w = join (side (suc l)) n (take m c) (drop m c) j i in omega (arith, w, both)
      go false i j = let w = join n (side (suc l)) (take m c) (drop m c) i j in omega (arith, w, both)

  module _ (absent : Bool) where
    list_nodes : (l hi : ℕ) (es : List Entry) → 0 < length es → k < hi → Rises (Ok fit room_at r l) hi es
        → is_none (find k (gather (under r l) es)) ≡ absent
        → ((y : ℕ) → k < y → (chosen k es).key < y → Ok fit room_at r l y (chosen k es)
        → is_none (find k (under r l (chosen k es))) ≡ absent
        → length (gather (places s l) (inserts l (chosen k es))) ≡ length (places r l (chosen k es)) + splits r k half
        absent l (chosen k es))
        → length (gather (places s l) (splice (inserts l) k es)) ≡ length (gather (places r l) es) + splits r k half
        absent l (chosen k es)
    list_nodes l hi es c q h f step =
        let sp = split (Ok fit room_at r l) k hi es c q h in
        let i = step (following sp.post hi) sp.under sp.up sp.here (ap is_none (sym (find_list fit room_at r k l hi es c q h)) ∙ f) in
        let w = splice_nodes (Ok fit room_at r l) (places r l) (places s l) (inserts l) k hi es c q
        (λ y x j. places_same fit room_at fit' r s keep same l y x j) h in
        omega (arith, i, w)

    edit_nodes : (l hi : ℕ) (e : Entry) → k < hi → e.key < hi → Ok fit room_at r l hi e
        → InsertMade r s k a n side half fit' Cut l e
        → is_none (find k (under r l e)) ≡ absent
        → length (gather (places s l) (inserts l e)) ≡ length (places r l e) + splits r k half absent l e
    unfolding edit Made Ok under splits places
    edit_nodes zero hi e q b h m f = none_nodes s (put k a (e ∷ []))
    edit_nodes (suc l) hi e q b h m f = go
        (list_nodes l hi (r e.addr (suc l)) h.1 q h.4 f (λ y u v i j. edit_nodes l y (chosen k (r e.addr (suc l))) u v i m.1 j))
        (leb (length c) (2 * half (suc l))) refl m.0.0
      where
        c : List Entry
        c = splice (inserts l) k (r e.addr (suc l))

        go : length (gather (places s l) c) ≡ length (gather (places r l) (r e.addr (suc l))) + splits r k half
            absent l (chosen k (r e.addr (suc l)))
            → (t : Bool) → leb (length c) (2 * half (suc l)) ≡ t → s n (suc l) ≡ pick t c (path_half k (half (suc l)) c)
            → length (gather (places s (suc l)) (pick t (record { key = min e.key k; addr = n } ∷ [])
            (two k n (side (suc l)) (half (suc l)) (min e.key k) c)))
            ≡ suc (length (gather (places r l) (r e.addr (suc l)))) + (bit (gains r k half absent (suc l) e) +
            splits r k half absent l (chosen k (r e.addr (suc l))))
        go below true d i = by_test (gains r k half absent (suc l) e)
            (λ g. absurd (omega (arith, leb-true (length c) (2 * half (suc l)) d, long k a n side half r fit absent l hi e q h f g)))
            (λ g. let x = one_node s l (min e.key k) n c i in omega (arith, x, below, ap bit g))
        go below false d i =
            let w = leb-false (length c) (2 * half (suc l)) d in
            let u = m.0.1 w in
            let g = over k a n side half r fit absent l hi e q h f w in
            let x = two_nodes l (half (suc l)) (min e.key k) c (i, u.0, u.1) in
            omega (arith, x, below, ap bit g)

    -- below the root's list: one more for each split
    pub root_nodes : (l : ℕ) (es : List Entry) → (1 ≤ l → 0 < length es) → Rises (Ok fit room_at r l) top es
        → is_none (find k (gather (under r l) es)) ≡ absent → InsertMade r s k a n side half fit' Cut l (chosen k es)
        → length (gather (places s l) (at_root (put_in k a) (inserts l) k l es))
        ≡ length (gather (places r l) es) + splits r k half absent l (chosen k es)
    unfolding at_root splits
    root_nodes zero es c h f m = let x = none_nodes s (put_in k a es) in let y = none_nodes r es in omega (arith, x, y)
    root_nodes (suc l) es c h f m = list_nodes (suc l) top es (c (omega arith)) k_top h f (λ y u v i j. edit_nodes (suc l) y (chosen k es) u v i m j)

-- ---- nodes against pairs
gather_most : (w : ℕ) (d : Entry → List Place) (e : Entry → List Entry) (es : List Entry)
    → All (λ x. 1024 * length (d x) ≤ length (e x) * w) es → 1024 * length (gather d es) ≤ length (gather e es) * w
unfolding gather
gather_most w d e [] h = omega arith
gather_most w d e (x ∷ es) h =
    let i = gather_most w d e es h.1 in
    let a = length-append (d x) (gather d es) in
    let b = ap (λ m. m * w) (length-append (e x) (gather e es)) ∙ add-mul (length (e x)) (length (gather e es)) w in
    omega (arith, i, h.0, a, b)

gather_least : (u : ℕ) (e : Entry → List Entry) (es : List Entry) → All (λ x. u ≤ length (e x)) es
    → u * length es ≤ length (gather e es)
unfolding gather
gather_least u e [] h = omega (arith, mul-zero u)
gather_least u e (x ∷ es) h =
    let i = gather_least u e es h.1 in
    let a = length-append (e x) (gather e es) in
    omega (arith, i, h.0, a, mul-suc u (length es))

-- of an entry at a level: at least u pairs, and for 1024 nodes at most w times as many pairs
pub record Weighed (r : Nodes) (l u w : ℕ) (e : Entry) : Type 0 where
  pub pairs : u ≤ length (under r l e)
  pub nodes : 1024 * length (places r l e) ≤ length (under r l e) * w

module _ (half : ℕ → ℕ) (r : Nodes) where
  -- one level more: h entries at least, so u * h pairs; d is 1024 over that
  weigh_step : (l u w h d : ℕ) → 1024 ≤ u * h * d → half (suc l) ≡ h → ((e : Entry) → All (Filled half r) (places r l e)
      → Weighed r l u w e)
      → (e : Entry) → All (Filled half r) (places r (suc l) e) → Weighed r (suc l) (u * h) (w + d) e
  unfolding under places
  weigh_step l u w h d m hs step e f =
      let es = r e.addr (suc l) in
      let each = all_map (λ x. All (Filled half r) (places r l x)) (Weighed r l u w) es (λ x. step x) (all_gather (Filled half r) (places r l) es f.1) in
      let a = gather_most w (places r l) (under r l) es (all_map (Weighed r l u w) (λ x. 1024 * length (places r l x) ≤ length (under r l x) * w) es
      (λ x i. i.nodes) each) in
      let b = gather_least u (under r l) es (all_map (Weighed r l u w) (λ x. u ≤ length (under r l x)) es (λ x i. i.pairs) each) in
      let c = mul-le-mul_left u f.0 in
      let pr : u * h ≤ length (gather (under r l) es) = omega (arith, b, c, ap (λ m. u * m) hs) in
      let v = mul-le-mul_right d pr in
      let z = mul-add (length (gather (under r l) es)) w d in
      record { pairs = pr; nodes = omega (arith, a, v, z, m) }

-- document 01's table: 16, 8, 4, 2 entries at least at the levels 1 to 4 below the root
module _ (half : ℕ → ℕ) (r : Nodes) (h1 : half 1 ≡ 16) (h2 : half 2 ≡ 8) (h3 : half 3 ≡ 4) (h4 : half 4 ≡ 2) where
  weigh0 : (e : Entry) → All (Filled half r) (places r 0 e) → Weighed r 0 1 0 e
  unfolding under places
  weigh0 e f = record { pairs = omega arith; nodes = omega arith }

  weigh1 : (e : Entry) → All (Filled half r) (places r 1 e) → Weighed r 1 16 64 e
  weigh1 = weigh_step half r 0 1 0 16 64 (omega arith) h1 weigh0

  weigh2 : (e : Entry) → All (Filled half r) (places r 2 e) → Weighed r 2 128 72 e
  weigh2 = weigh_step half r 1 16 64 8 8 (omega arith) h2 weigh1

  weigh3 : (e : Entry) → All (Filled half r) (places r 3 e) → Weighed r 3 512 74 e
  weigh3 = weigh_step half r 2 128 72 4 2 (omega arith) h3 weigh2

  weigh4 : (e : Entry) → All (Filled half r) (places r 4 e) → Weighed r 4 1024 75 e
  weigh4 = weigh_step half r 3 512 74 2 1 (omega arith) h4 weigh3

  weighed : (l u w : ℕ) → w ≤ 75 → ((e : Entry) → All (Filled half r) (places r l e) → Weighed r l u w e)
      → (es : List Entry)
      → All (Filled half r) (gather (places r l) es)
      → 1024 * length (gather (places r l) es) ≤ 75 * length (gather (under r l) es)
  weighed l u w q step es f =
      let a = gather_most w (places r l) (under r l) es (all_map (λ x. All (Filled half r) (places r l x))
      (λ x. 1024 * length (places r l x) ≤ length (under r l x) * w) es (λ x i. (step x i).nodes) (all_gather (Filled half r) (places r l) es f)) in
      let b = mul-le-mul_left (length (gather (under r l) es)) q in
      omega (arith, a, b)

  -- the nodes below a root of height 1 to 5: 1,024 of them for at least 75 pairs
  pub nodes_most : (l : ℕ) (es : List Entry) → l ≤ 4 → All (Filled half r) (gather (places r l) es)
      → 1024 * length (gather (places r l) es) ≤ 75 * length (gather (under r l) es)
  nodes_most zero es q f = weighed 0 1 0 (omega arith) weigh0 es f
  nodes_most (suc zero) es q f = weighed 1 16 64 (omega arith) weigh1 es f
  nodes_most (suc (suc zero)) es q f = weighed 2 128 72 (omega arith) weigh2 es f
  nodes_most (suc (suc (suc zero))) es q f = weighed 3 512 74 (omega arith) weigh3 es f
  nodes_most (suc (suc (suc (suc zero)))) es q f = weighed 4 1024 75 (omega arith) weigh4 es f
  nodes_most (suc (suc (suc (suc (suc l))))) es q f = absurd (omega arith)
