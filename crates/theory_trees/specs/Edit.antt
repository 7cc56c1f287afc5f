-- What insert, delete and move share: the chosen entry gives way to a list of entries, level by level. Assumes nothing.
use Rattle.std.specs.Prelude.{◌≡◌, List, [], ◌∷◌, ◌++◌, ◌⊎◌, length}
use Rattle.std.proofs.Math.Path.{ap, sym}
use Rattle.std.proofs.Common.{◌∙◌, inl, inr, arith, length-append}
use Prim.Native.Nat.{ℕ, zero, suc, ◌+◌, ◌<◌, ◌≤◌}
use Rattle.geometry.specs.declared.Entry.{Entry}
use Rattle.model.specs.Image.{Nodes}
use Rattle.model.specs.Tree.{gather, under, Place, places, following, chosen}
use Rattle.model.specs.Edit.{splice}
use Rattle.theory_lists.specs.All.{All, Some, all_append, some_left, some_right}
use Rattle.theory_nodes.specs.Entries.{In, Rises, gather_append, gather_eq, gather_one, gather_all, all_gather, next_append, rises_append, rises_map, rises_all, rises_more, Split, split, rises_in, pre_in}
use Rattle.theory_nodes.specs.Nodes.{Ok, ok_more, under_in, ok_same, under_same, places_same}

-- an operation on sorted lists that works at k only
pub record Local (k : ℕ) (op : List Entry → List Entry) : Type 0 where
  pub after : (lo : ℕ) (xs ys : List Entry) → All (In lo k) xs → op (xs ++ ys) ≡ xs ++ op ys
  pub before : (lo hi : ℕ) (ys zs : List Entry) → k < lo → All (In lo hi) zs → op (ys ++ zs) ≡ op ys ++ zs

module _ (k : ℕ) (op : List Entry → List Entry) (loc : Local k op) (P : ℕ → Entry → Type 0)
    (d d' f : Entry → List Entry)
    (range : (y : ℕ) (x : Entry) → x.key < y → P y x → All (In x.key y) (d x)) (same : (y : ℕ) (x : Entry) → P y x
    → d' x ≡ d x) where
  sames : (hi : ℕ) (es : List Entry) → Rises P hi es → gather d' es ≡ gather d es
  sames hi es h = gather_eq d d' es (rises_all P (λ x. d' x ≡ d x) hi es (λ y x _ _ i. same y x i) h)

  pub splice_op : (hi : ℕ) (es : List Entry) → 0 < length es → k < hi → Rises P hi es
      → ((y : ℕ) → k < y → (chosen k es).key < y → P y (chosen k es) → gather d' (f (chosen k es))
      ≡ op (d (chosen k es)))
      → gather d' (splice f k es) ≡ op (gather d es)
  unfolding gather
  splice_op hi es n q h step = go (split P k hi es n q h)
    where
      go : Split P k hi es (chosen k es) (λ f. splice f k es) → gather d' (splice f k es) ≡ op (gather d es)
      go s =
          let x = chosen k es in
          let l1 : gather d' (splice f k es) ≡ gather d s.pre ++ (op (d x) ++ gather d s.post) =
          rw (
            s.spliced f,
            gather_append d' s.pre (f x ++ s.post),
            gather_append d' (f x) s.post,
            step (following s.post hi) s.under
                s.up s.here,
            sames x.key s.pre s.before,
            sames hi s.post s.rest,
          ) in
          let r1 : gather d es ≡ gather d s.pre ++ (d x ++ gather d s.post) =
          ap (gather d) s.whole ∙ gather_append d s.pre
          (x ∷ s.post) in
          let r2 : op (gather d s.pre ++ (d x ++ gather d s.post)) ≡ gather d s.pre ++ op (d x ++ gather d s.post) = loc.after 0
          (gather d s.pre) (d x ++ gather d s.post) (pre_in k P d range x.key s.pre s.upto s.before) in
          let r3 : op (d x ++ gather d s.post) ≡ op (d x) ++ gather d s.post =
          loc.before (following s.post hi) hi (d x) (gather d s.post)
          s.under (rises_in k P d range (following s.post hi) hi s.post (omega arith) s.rest) in
          l1 ∙ sym (ap op r1 ∙ r2 ∙ ap (λ m. gather d s.pre ++ m) r3)

pub splice_length : (P : ℕ → Entry → Type 0) (f : Entry → List Entry) (k hi : ℕ) (es : List Entry) → 0 < length es
    → k < hi → Rises P hi es
    → suc (length (splice f k es)) ≡ length es + length (f (chosen k es))
splice_length P f k hi es n q h = go (split P k hi es n q h)
  where
    go : Split P k hi es (chosen k es) (λ f. splice f k es) → suc (length (splice f k es))
        ≡ length es + length (f (chosen k es))
    go s =
        let x = chosen k es in
        let a = ap length (s.spliced f) ∙ length-append s.pre (f x ++ s.post) in
        let b = length-append (f x) s.post in
        let c = ap length s.whole ∙ length-append s.pre (x ∷ s.post) in
        omega (arith, a, b, c)

module _ (k : ℕ) (P Q : ℕ → Entry → Type 0) (f : Entry → List Entry) (low : ℕ → ℕ) (low_le : (z : ℕ) → low z ≤ z)
    (low-id : (z : ℕ) → z ≤ k → z ≤ low z)
    (more : (y y' : ℕ) (x : Entry) → x.key < y → y ≤ y' → P y x → Q y' x) where
  pre_rises : (z z' : ℕ) (pre : List Entry) → (0 < length pre → z ≤ z') → Rises P z pre → Rises Q z' pre
  pre_rises z z' [] u h = tt
  pre_rises z z' (e ∷ pre) u h = rises_more P Q z z' (e ∷ pre) (u (omega arith)) more h

  pre_low : (z z' : ℕ) (pre : List Entry) → low z ≤ z' → low (following pre z) ≤ following pre z'
  pre_low z z' [] q = q
  pre_low z z' (e ∷ pre) q = low_le e.key

  pub splice_rises : (hi : ℕ) (es : List Entry) → 0 < length es → k < hi → Rises P hi es
      → ((y : ℕ) → k < y → (chosen k es).key < y → P y (chosen k es) → Rises Q y (f (chosen k es)) ×
      (low (chosen k es).key ≤ following (f (chosen k es)) y))
      → Rises Q hi (splice f k es) × (low (following es hi) ≤ following (splice f k es) hi)
  splice_rises hi es n q h step = go (split P k hi es n q h)
    where
      go : Split P k hi es (chosen k es) (λ f. splice f k es) → Rises Q hi (splice f k es) ×
          (low (following es hi) ≤ following (splice f k es) hi)
      go s =
          let x = chosen k es in
          let y = following s.post hi in
          let st = step y s.under s.up s.here in
          let e1 = next_append (f x) s.post hi in
          let e2 : following es hi ≡ following s.pre x.key = ap (λ m. following m hi) s.whole
          ∙ next_append s.pre (x ∷ s.post) hi in
          let e3 : following (splice f k es) hi ≡ following s.pre (following (f x) y) = ap (λ m. following m hi) (s.spliced f)
          ∙ next_append s.pre
          (f x ++ s.post) hi ∙ ap (following s.pre) e1 in (
            rw (s.spliced f) (rises_append Q hi s.pre (f x ++ s.post)
                (rw e1 (pre_rises x.key (following (f x) y) s.pre (λ z. omega (arith, low-id x.key (s.upto z), st.1)) s.before))
                (rises_append Q hi (f x) s.post st.0 (rises_map P Q hi s.post (λ y x q _ i. more y y x q (omega arith) i) s.rest))),
            rw (e2, e3) (pre_low x.key (following (f x) y) s.pre st.1),
          )

-- every entry of the spliced list: off the path its range leaves k out
module _ (k : ℕ) (P : ℕ → Entry → Type 0) (f : Entry → List Entry) (W : Entry → Type 0)
    (off : (y : ℕ) (x : Entry) → x.key < y → P y x → ((y ≤ k) ⊎ (k < x.key)) → W x) where
  pre_off : (z : ℕ) (pre : List Entry) → (0 < length pre → z ≤ k) → Rises P z pre → All W pre
  pre_off z [] u h = tt
  pre_off z (e ∷ pre) u h = let b = u (omega arith) in
      rises_all P W z (e ∷ pre) (λ y x q c i. off y x q i (inl (omega arith))) h

  post_off : (hi : ℕ) (post : List Entry) → k < following post hi → Rises P hi post → All W post
  post_off hi [] q h = tt
  post_off hi (e ∷ es) q h = (off (following es hi) e h.0 h.1 (inr q), post_off hi es (omega arith) h.2)

  pub splice_each : (hi : ℕ) (es : List Entry) → 0 < length es → k < hi → Rises P hi es
      → ((y : ℕ) → k < y → (chosen k es).key < y → P y (chosen k es) → All W (f (chosen k es)))
      → All W (splice f k es)
  splice_each hi es n q h step = go (split P k hi es n q h)
    where
      go : Split P k hi es (chosen k es) (λ f. splice f k es) → All W (splice f k es)
      go s = rw (s.spliced f) (all_append W s.pre (f (chosen k es) ++ s.post) (pre_off (chosen k es).key s.pre s.upto s.before)
          (all_append W (f (chosen k es)) s.post (step (following s.post hi) s.under s.up s.here)
          (post_off hi s.post s.under s.rest)))

pub splice_some : (P : ℕ → Entry → Type 0) (Z : Entry → Type 0) (f : Entry → List Entry) (k hi : ℕ) (es : List Entry)
    → 0 < length es → k < hi
    → Rises P hi es → Some Z (f (chosen k es)) → Some Z (splice f k es)
splice_some P Z f k hi es n q h i = go (split P k hi es n q h)
  where
    go : Split P k hi es (chosen k es) (λ f. splice f k es) → Some Z (splice f k es)
    go s = rw (s.spliced f) (some_right Z s.pre (f (chosen k es) ++ s.post) (some_left Z (f (chosen k es)) s.post i))

-- the replacement of an entry at a level: base makes it of a pair, name of the changed list of the node below
unfoldable pub edit : Nodes → ℕ → (Entry → List Entry) → (ℕ → Entry → List Entry → List Entry) → ℕ → Entry → List Entry
edit r k base name zero e = base e
edit r k base name (suc l) e = name (suc l) e (splice (edit r k base name l) k (r e.addr (suc l)))

-- the edited node of n entries at the root: a leaf by `leaf`, above a splice
unfoldable pub at_root : (List Entry → List Entry) → (Entry → List Entry) → ℕ → ℕ → List Entry → List Entry
at_root leaf f k zero es = leaf es
at_root leaf f k (suc l) es = splice f k es

-- Held l e c: the new nodes hold c, the changed list of the path's node under e at level l, as they should; Made: so at
-- every level of the path
unfoldable pub Made : Nodes → ℕ → (Entry → List Entry) → (ℕ → Entry → List Entry → List Entry)
    → (ℕ → Entry → List Entry → Type 0) → ℕ → Entry
    → Type 0
Made r k base name Held zero e = Unit {0}
Made r k base name Held (suc l) e = Held (suc l) e (splice (edit r k base name l) k (r e.addr (suc l))) × Made r k base name Held l
    (chosen k (r e.addr (suc l)))

-- Made, with what follows from Held in its place
pub made_map : (r : Nodes) (k : ℕ) (base : Entry → List Entry) (name : ℕ → Entry → List Entry → List Entry)
    (H I : ℕ → Entry → List Entry → Type 0)
    → ((l : ℕ) (e : Entry) (c : List Entry) → H (suc l) e c → I (suc l) e c) → (l : ℕ) (e : Entry)
    → Made r k base name H l e → Made r k base name I l e
unfolding Made
made_map r k base name H I f zero e m = tt
made_map r k base name H I f (suc l) e m = (
  f l e (splice (edit r k base name l) k (r e.addr (suc l))) m.0,
  made_map r k base name H I f l (chosen k (r e.addr (suc l))) m.1,
)

-- what a replacement is: it rises below y, from low of the old key z on; least to most entries
abbrev pub Out : (ℕ → Entry → Type 0) → (ℕ → ℕ) → ℕ → ℕ → ℕ → ℕ → List Entry → Type 0
Out P low least most y z es = Rises P y es × (low z ≤ following es y) × (least ≤ length es) × (length es ≤ most)

-- what the changed list of a node of n entries is
pub record Changed (P : ℕ → Entry → Type 0) (low : ℕ → ℕ) (least most y z n : ℕ) (c : List Entry) : Type 0 where
  pub up : Rises P y c
  pub from : low z ≤ following c y
  pub few : n + least ≤ suc (length c)
  pub many : suc (length c) ≤ n + most

pub no_places : (W : Place → Type 0) (s : Nodes) (es : List Entry) → All W (gather (places s 0) es)
unfolding gather places
no_places W s [] = tt
no_places W s (e ∷ es) = no_places W s es

-- the places under an entry that names page q: q's own, and those under its node
pub page_where : (s : Nodes) (W : Place → Type 0) (l z q : ℕ) (es : List Entry) → s q (suc l) ≡ es
    → W (record { page = q; level = suc l })
    → All W (gather (places s l) es) → All W (places s (suc l) (record { key = z; addr = q }))
unfolding places
page_where s W l z q es e w h = (w, rw e h)

module _ (fit fit' : ℕ → ℕ → Type 0) (room : ℕ → ℕ) (r s : Nodes) (keep : (l a : ℕ) → fit l a → fit' l a)
    (same : (p l : ℕ) → fit (suc l) p → s p (suc l) ≡ r p (suc l))
    (k : ℕ) (base : Entry → List Entry) (name : ℕ → Entry → List Entry → List Entry) (Held : ℕ → Entry → List Entry
    → Type 0) where
  module _ (op : List Entry → List Entry) (loc : Local k op) (base-op : (e : Entry) → base e ≡ op (e ∷ []))
      (name-op : (l hi : ℕ) (e : Entry) (c : List Entry) → Ok fit room r (suc l) hi e → Held (suc l) e c
      → gather (under s l) c ≡ op
      (under r (suc l) e) → gather (under s (suc l)) (name (suc l) e c) ≡ op (under r (suc l) e)) where
    list_op : (l hi : ℕ) (es : List Entry) → 0 < length es → k < hi → Rises (Ok fit room r l) hi es
        → ((y : ℕ) → k < y → (chosen k es).key < y → Ok fit room r l y (chosen k es) → gather (under s l)
        (edit r k base name l (chosen k es)) ≡ op
        (under r l (chosen k es)))
        → gather (under s l) (splice (edit r k base name l) k es) ≡ op (gather (under r l) es)
    list_op l hi es n q h step = splice_op k op loc (Ok fit room r l) (under r l) (under s l) (edit r k base name l)
        (λ y x b i. under_in fit room r l y x b i) (λ y x i. under_same fit room fit' r s keep same l y x i) hi es n q h step

    -- the pairs of the replacement are the pairs, operated on
    pub edit_under : (l hi : ℕ) (e : Entry) → k < hi → e.key < hi → Ok fit room r l hi e → Made r k base name Held l e
        → gather (under s l) (edit r k base name l e) ≡ op (under r l e)
    unfolding edit Made under Ok
    edit_under zero hi e q b h m = gather_one (base e) ∙ base-op e
    edit_under (suc l) hi e q b h m = name-op l hi e (splice (edit r k base name l) k (r e.addr (suc l))) h m.0
        (list_op l hi (r e.addr (suc l)) h.1 q h.4 (λ y z b i. edit_under l y (chosen k (r e.addr (suc l))) z b i m.1))

    pub edit_list : (l hi : ℕ) (es : List Entry) → 0 < length es → k < hi → Rises (Ok fit room r l) hi es
        → Made r k base name Held l (chosen k es)
        → gather (under s l) (splice (edit r k base name l) k es) ≡ op (gather (under r l) es)
    edit_list l hi es n q h m = list_op l hi es n q h (λ y z b i. edit_under l y (chosen k es) z b i m)

  module _ (low : ℕ → ℕ) (least most : ℕ) (low_le : (z : ℕ) → low z ≤ z) (low-id : (z : ℕ) → z ≤ k → z ≤ low z)
      (low_up : (y z : ℕ) → y ≤ z → low y ≤ low z)
      (base_ok : (y : ℕ) (e : Entry) → k < y → e.key < y → fit 0 e.addr → Out (Ok fit' room s 0) low least most y
      e.key (base e))
      (name-ok : (l y n : ℕ) (e : Entry) (c : List Entry) → Ok fit room r (suc l) y e → Held (suc l) e c → k < y
      → e.key < y → Rises
      (Ok fit' room s l) y c → low e.key ≤ following c y
      → 1 ≤ n → n ≤ room (suc l) → n + least ≤ suc (length c) → suc (length c) ≤ n + most
      → Out (Ok fit' room s (suc l)) low least most y e.key (name (suc l) e c)) where
    list_ok : (l hi : ℕ) (es : List Entry) → 0 < length es → k < hi → Rises (Ok fit room r l) hi es
        → ((y : ℕ) → k < y → (chosen k es).key < y → Ok fit room r l y (chosen k es)
        → Out (Ok fit' room s l) low least most y (chosen k es).key
        (edit r k base name l (chosen k es)))
        → Changed (Ok fit' room s l) low least most hi (following es hi) (length es) (splice (edit r k base name l) k es)
    list_ok l hi es n q h step =
        let sr = splice_rises k (Ok fit room r l) (Ok fit' room s l) (edit r k base name l) low low_le low-id
        (λ y y' x b z i. ok_same fit room fit' r s keep same l y' x (ok_more fit room r l y y' x z i)) hi es n q h
        (λ y a b i. ((step y a b i).0, (step y a b i).1)) in
        let sl = splice_length (Ok fit room r l) (edit r k base name l) k hi es n q h in
        let se = split (Ok fit room r l) k hi es n q h in
        let st = step (following se.post hi) se.under se.up se.here in
        record { up = sr.0; from = sr.1; few = omega (arith, sl, st.2); many = omega (arith, sl, st.3) }

    pub edit_ok : (l hi : ℕ) (e : Entry) → k < hi → e.key < hi → Ok fit room r l hi e → Made r k base name Held l e
        → Out (Ok fit' room s l) low least most hi e.key (edit r k base name l e)
    unfolding edit Made Ok
    edit_ok zero hi e q b h m = base_ok hi e q b h
    edit_ok (suc l) hi e q b h m =
        let es = r e.addr (suc l) in
        let c = splice (edit r k base name l) k es in
        let ch = list_ok l hi es h.1 q h.4 (λ y z b i. edit_ok l y (chosen k es) z b i m.1) in
        name-ok l hi (length es) e c h m.0 q b ch.up (omega (arith, low_up e.key (following es hi) h.3, ch.from)) h.1 h.2 ch.few
        ch.many

    pub edit_list_ok : (l hi : ℕ) (es : List Entry) → 0 < length es → k < hi → Rises (Ok fit room r l) hi es
        → Made r k base name Held l (chosen k es)
        → Changed (Ok fit' room s l) low least most hi (following es hi) (length es) (splice (edit r k base name l) k es)
    edit_list_ok l hi es n q h m = list_ok l hi es n q h (λ y z b i. edit_ok l y (chosen k es) z b i m)

  -- the places of the result: new ones, and old ones off the path
  module _ (W : Place → Type 0)
      (off : (l y : ℕ) (e : Entry) → e.key < y → Ok fit room r l y e → ((y ≤ k) ⊎ (k < e.key)) → All W (places r l e))
    where
      pub list_places : (l hi : ℕ) (es : List Entry) → 0 < length es → k < hi → Rises (Ok fit room r l) hi es
          → ((y : ℕ) → k < y → (chosen k es).key < y → Ok fit room r l y (chosen k es) → All W
          (gather (places s l) (edit r k base name l (chosen k es))))
          → All W (gather (places s l) (splice (edit r k base name l) k es))
      list_places l hi es n q h step = gather_all W (places s l) (splice (edit r k base name l) k es)
          (splice_each k (Ok fit room r l) (edit r k base name l) (λ e. All W (places s l e))
          (λ y x b i o. rw (places_same fit room fit' r s keep same l y x i) (off l y x b i o)) hi es n q h
          (λ y a b i. all_gather W (places s l) (edit r k base name l (chosen k es)) (step y a b i)))

  module _ (W : Place → Type 0) (off : (l y : ℕ) (e : Entry) → e.key < y → Ok fit room r l y e
      → ((y ≤ k) ⊎ (k < e.key)) → All W (places r l e))
      (name-places : (l y : ℕ) (e : Entry) → k < y → e.key < y → Ok fit room r (suc l) y e → Made r k base name Held
      (suc l) e
      → All W (gather (places s l) (splice (edit r k base name l) k (r e.addr (suc l))))
      → All W (gather (places s (suc l)) (name (suc l) e (splice (edit r k base name l) k (r e.addr (suc l))))))
    where
      pub edit_places : (l hi : ℕ) (e : Entry) → k < hi → e.key < hi → Ok fit room r l hi e → Made r k base name Held l e
          → All W (gather (places s l) (edit r k base name l e))
      unfolding edit Made Ok
      edit_places zero hi e q b h m = no_places W s (base e)
      edit_places (suc l) hi e q b h m = name-places l hi e q b h m (list_places W off l hi (r e.addr (suc l)) h.1 q h.4
          (λ y z b i. edit_places l y (chosen k (r e.addr (suc l))) z b i m.1))

      pub edit_list_places : (l hi : ℕ) (es : List Entry) → 0 < length es → k < hi → Rises (Ok fit room r l) hi es
          → Made r k base name Held l (chosen k es) → All W (gather (places s l) (splice (edit r k base name l) k es))
      edit_list_places l hi es n q h m = list_places W off l hi es n q h (λ y z b i. edit_places l y (chosen k es) z b i m)
