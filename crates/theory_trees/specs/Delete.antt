-- Delete: the map without K, and R5 of what is left, the root's collapse too. Assumes nothing.
use Rattle.std.specs.Prelude.{◌≡◌, Bool, length, eqb}
use Rattle.std.proofs.Math.Path.{refl, ap, sym}
use Rattle.std.proofs.Common.{◌∙◌, ne_eqb}
use mathlib.Core.List.{List, [], ◌∷◌, ◌++◌, append-nil}
use Rattle.std.proofs.Math.Bool.{true, false}
use Prim.Native.Nat.{ℕ, zero, suc, ◌+◌, ◌*◌, ◌<◌, ◌≤◌}
use native.Mathlib.Omega.{arith}
use Rattle.geometry.specs.declared.Entry.{Entry}
use Rattle.geometry.specs.Tests.{pick}
use Rattle.model.specs.Image.{Nodes}
use Rattle.model.specs.Tree.{gather, under, following, chosen}
use Rattle.model.specs.Edit.{splice, remove, remove_in, kept, Top, collapse}
use Rattle.model.specs.Plain.{kept_on}
use Rattle.theory_lists.specs.All.{All}
use Rattle.theory_nodes.specs.Entries.{In, Rises, gather_eq, gather_one, rises_map, rises_all, split, splice_cong}
use Rattle.theory_nodes.specs.Nodes.{Ok, ok_more, ok_same, under_same, the, Rooted}
use Rattle.theory_trees.specs.Edit.{Local, splice_op, splice_length, splice_rises, edit, at_root, Made, made_map, Out, edit_list, edit_list_ok}

remove_after : (k lo : ℕ) (xs ys : List Entry) → All (In lo k) xs → remove k (xs ++ ys) ≡ xs ++ remove k ys
remove_after k lo [] ys h = refl
remove_after k lo (e ∷ xs) ys h = rw (ne_eqb e.key k (λ p. omega (arith, h.0.1))) (ap (λ l. e ∷ l) (remove_after k lo xs ys h.1))

remove_none : (k lo hi : ℕ) (zs : List Entry) → k < lo → All (In lo hi) zs → remove k zs ≡ zs
remove_none k lo hi [] q h = refl
remove_none k lo hi (e ∷ zs) q h = rw (ne_eqb e.key k (λ p. omega (arith, h.0.0))) (ap (λ l. e ∷ l) (remove_none k lo hi zs q h.1))

remove_before : (k lo hi : ℕ) (ys zs : List Entry) → k < lo → All (In lo hi) zs
    → remove k (ys ++ zs) ≡ remove k ys ++ zs
remove_before k lo hi [] zs q h = remove_none k lo hi zs q h
remove_before k lo hi (e ∷ ys) zs q h = go (eqb e.key k) (remove_before k lo hi ys zs q h)
  where
    go : (t : Bool) → remove k (ys ++ zs) ≡ remove k ys ++ zs → pick t (ys ++ zs) (e ∷ remove k (ys ++ zs)) ≡ pick t ys
        (e ∷ remove k ys) ++ zs
    go true i = refl
    go false i = ap (λ l. e ∷ l) i

pub remove_local : (k : ℕ) → Local k (remove k)
remove_local k = record { after = remove_after k; before = remove_before k }

pub remove_splice : (k hi : ℕ) (es : List Entry) → 0 < length es → k < hi → Rises (λ y x. Unit {0}) hi es
    → splice (λ e. remove k (e ∷ [])) k es ≡ remove k es
remove_splice k hi es n q h =
    sym (gather_one (splice (λ e. remove k (e ∷ [])) k es))
    ∙ splice_op k (remove k) (remove_local k) (λ y x. Unit {0}) (λ e. e ∷ []) (λ e. e ∷ []) (λ e. remove k (e ∷ [])) (λ y x b i. (omega arith, tt))
    (λ y x i. refl) hi es n q h (λ y _ _ _. gather_one (remove k (chosen k es ∷ [])))
    ∙ ap (remove k) (gather_one es)

pub remove_in_lem : (k hi : ℕ) (es : List Entry) → k < hi → Rises (λ y x. Unit {0}) hi es → remove_in k es ≡ remove k es
unfolding remove_in splice
remove_in_lem k hi [] q h = refl
remove_in_lem k hi (e ∷ es) q h = remove_splice k hi (e ∷ es) (omega arith) q h

-- n l is the page of the path's node at level l
abbrev pub deleted_on : Nodes → ℕ → (ℕ → ℕ) → ℕ → Entry → List Entry
deleted_on r k n l e = edit r k (λ e. remove k (e ∷ [])) (kept_on n) l e

abbrev pub DeleteHeldOn : (ℕ → ℕ) → Nodes → (ℕ → ℕ → Type 0) → ℕ → Entry → List Entry → Type 0
DeleteHeldOn n s fit l e c = 1 ≤ length c → (s (n l) l ≡ c) × fit l (n l)

abbrev pub DeleteMadeOn : Nodes → Nodes → ℕ → (ℕ → ℕ) → (ℕ → ℕ → Type 0) → ℕ → Entry → Type 0
DeleteMadeOn r s k n fit l e = Made r k (λ e. remove k (e ∷ [])) (kept_on n) (DeleteHeldOn n s fit) l e

-- the μ-Tree has them all on N
abbrev pub deleted : Nodes → ℕ → ℕ → ℕ → Entry → List Entry
deleted r k n = deleted_on r k (λ _. n)

abbrev pub DeleteHeld : ℕ → Nodes → ℕ → Entry → List Entry → Type 0
DeleteHeld n s l e c = 1 ≤ length c → s n l ≡ c

abbrev pub DeleteMade : Nodes → Nodes → ℕ → ℕ → ℕ → Entry → Type 0
DeleteMade r s k n l e = Made r k (λ e. remove k (e ∷ [])) (kept n) (DeleteHeld n s) l e

pub delete_made_lem : (r s : Nodes) (k n : ℕ) (fit : ℕ → ℕ → Type 0) → ((l : ℕ) → fit (suc l) n) → (l : ℕ) (e : Entry)
    → DeleteMade r s k n l e
    → DeleteMadeOn r s k (λ _. n) fit l e
delete_made_lem r s k n fit fn = made_map r k (λ e. remove k (e ∷ [])) (kept n) (DeleteHeld n s) (DeleteHeldOn (λ _. n) s fit) (λ l e c h b. (h b, fn l))

pub none_left_lem : (es : List Entry) → length es ≤ 0 → es ≡ []
none_left_lem [] h = refl
none_left_lem (e ∷ es) h = absurd (omega arith)

-- where nothing is left of an entry, nothing is left of the path below it: what asks for something of a node that is
-- left is so
pub none_held : (k : ℕ) (n : ℕ → ℕ) (half : ℕ → ℕ) (r : Nodes) (fit : ℕ → ℕ → Type 0) (H : ℕ → Entry → List Entry
    → Type 0)
    → ((l : ℕ) (e : Entry) (c : List Entry) → length c ≡ 0 → H l e c)
    → (l hi : ℕ) (e : Entry) → k < hi → Ok fit (λ l. 2 * half l) r l hi e → deleted_on r k n l e ≡ []
    → Made r k (λ e. remove k (e ∷ [])) (kept_on n) H l e
unfolding edit Made Ok
none_held k n half r fit H f zero hi e q h d = tt
none_held k n half r fit H f (suc l) hi e q h d =
    let es = r e.addr (suc l) in
    let z = emptied (splice (deleted_on r k n l) k es) d in
    let sp = split (Ok fit (λ l. 2 * half l) r l) k hi es h.1 q h.4 in
    let w = splice_length (Ok fit (λ l. 2 * half l) r l) (deleted_on r k n l) k hi es h.1 q h.4 in (
      f (suc l) e (splice (deleted_on r k n l) k es) z,
      none_held k n half r fit H f l (following sp.post hi) (chosen k es) sp.under sp.here
          (none_left_lem (deleted_on r k n l (chosen k es)) (omega (arith, w, z, h.1))),
    )
  where
    emptied : (c : List Entry) → kept_on n (suc l) e c ≡ [] → length c ≡ 0
    emptied [] i = refl
    emptied (x ∷ c) i = absurd (omega (arith, ap length i))

module _ (k : ℕ) (n : ℕ → ℕ) (top : ℕ) (half most : ℕ → ℕ) (r s : Nodes) (fit fit' : ℕ → ℕ → Type 0)
    (keep : (l a : ℕ) → fit l a → fit' l a) (same : (p l : ℕ) → fit (suc l) p → s p (suc l) ≡ r p (suc l))
    (k_top : k < top) where
  abbrev room_at : ℕ → ℕ
  room_at l = 2 * half l

  abbrev deletes : ℕ → Entry → List Entry
  deletes = deleted_on r k n

  abbrev Making : ℕ → Entry → Type 0
  Making = DeleteMadeOn r s k n fit'

  pub kept_under : (l : ℕ) (e : Entry) (c : List Entry) → DeleteHeldOn n s fit' (suc l) e c
      → gather (under s (suc l)) (kept_on n (suc l) e c) ≡ gather (under s l) c
  unfolding under gather
  kept_under l e [] h = refl
  kept_under l e (x ∷ c) h = rw (h (omega arith)).0 (append-nil (gather (under s l) (x ∷ c)))

  pub kept_ok : (l y i : ℕ) (e : Entry) (c : List Entry) → DeleteHeldOn n s fit' (suc l) e c → k < y → e.key < y
      → Rises (Ok fit' room_at s l) y c
      → e.key ≤ following c y
      → 1 ≤ i → i ≤ room_at (suc l) → i + 0 ≤ suc (length c) → suc (length c) ≤ i + 1
      → Out (Ok fit' room_at s (suc l)) (λ z. z) 0 1 y e.key (kept_on n (suc l) e c)
  unfolding Ok
  kept_ok l y i e [] h q b up from i1 i2 c1 c2 = (tt, omega arith, omega arith, omega arith)
  kept_ok l y i e (x ∷ c) h q b up from i1 i2 c1 c2 = (
    (b, rw (h (omega arith)).0 ((h (omega arith)).1, omega arith, omega arith, from, up), tt),
    omega arith,
    omega arith,
    omega arith,
  )

  pub remove_ok : (y : ℕ) (e : Entry) → k < y → e.key < y → fit 0 e.addr → Out (Ok fit' room_at s 0) (λ z. z) 0 1 y
      e.key (remove k (e ∷ []))
  unfolding Ok
  remove_ok y e q b h = go (eqb e.key k)
    where
      go : (t : Bool) → Out (Ok fit' room_at s 0) (λ z. z) 0 1 y e.key (pick t [] (e ∷ []))
      go true = (tt, omega arith, omega arith, omega arith)
      go false = ((b, keep 0 e.addr h, tt), omega arith, omega arith, omega arith)

  pub record Gone (l : ℕ) (es c : List Entry) : Type 0 where
    pub pairs_are : gather (under s l) c ≡ remove k (gather (under r l) es)
    pub rises : Rises (Ok fit' room_at s l) top c
    pub few : length es ≤ suc (length c)
    pub many : length c ≤ length es

  gone_some : (l : ℕ) (es : List Entry) → 0 < length es → Rises (Ok fit room_at r l) top es → Making l (chosen k es)
      → Gone l es (splice (deletes l) k es)
  gone_some l es e h m =
      let p = edit_list fit fit' room_at r s keep same k (λ e. remove k (e ∷ [])) (kept_on n) (DeleteHeldOn n s fit') (remove k) (remove_local k) (λ e. refl)
      (λ l hi e c _ h i. kept_under l e c h ∙ i) l top es e k_top h m in
      let o = edit_list_ok fit fit' room_at r s keep same k (λ e. remove k (e ∷ [])) (kept_on n) (DeleteHeldOn n s fit') (λ z. z) 0 1 (λ z. omega arith)
      (λ z i. omega arith) (λ y z i. omega arith) remove_ok (λ l y i e c _. kept_ok l y i e c) l top es e k_top h m in
      record { pairs_are = p; rises = o.up; few = omega (arith, o.few); many = omega (arith, o.many) }

  pub gone : (l : ℕ) (es : List Entry) → (1 ≤ l → 2 ≤ length es) → Rises (Ok fit room_at r l) top es
      → Making l (chosen k es)
      → Gone l es (at_root (remove_in k) (deletes l) k l es)
  unfolding at_root edit under Ok remove_in splice
  gone zero [] g h m = record { pairs_are = gather_one [] ∙ ap (remove k) (sym (gather_one [])); rises = tt; few = omega arith; many = omega arith }
  gone zero (e ∷ es) g h m = gone_some zero (e ∷ es) (omega arith) h m
  gone (suc l) es g h m = gone_some (suc l) es (omega (arith, g (omega arith))) h m

  abbrev root_less : ℕ → ℕ → List Entry
  root_less l p = at_root (remove_in k) (deletes l) k l (r p (suc l))

  -- the root stays at its level
  pub less_pairs : (l p : ℕ) → Rooted fit room_at most top r l p → Making l (chosen k (r p (suc l)))
      → s (n (suc l)) (suc l) ≡ root_less l p
      → under s (suc l) (the (n (suc l))) ≡ remove k (under r (suc l) (the p))
  unfolding under
  less_pairs l p h m e = rw e (gone l (r p (suc l)) h.least h.rises m).pairs_are

  pub less_ok : (l p : ℕ) → Rooted fit room_at most top r l p → Making l (chosen k (r p (suc l)))
      → s (n (suc l)) (suc l) ≡ root_less l p
      → fit' (suc l) (n (suc l)) → (1 ≤ l → 2 ≤ length (root_less l p))
      → Rooted fit' room_at most top s l (n (suc l))
  less_ok l p h m e fn b =
      let f = gone l (r p (suc l)) h.least h.rises m in
      record { fits = fn; least = λ z. rw e (b z); atmost = rw e (omega (arith, f.many, h.atmost)); rises = rw e f.rises }

  -- one entry is left: the path is gone and the entry is an old one
  pub left_old : (l : ℕ) (es : List Entry) → 2 ≤ length es → Rises (Ok fit room_at r l) top es
      → length (splice (deletes l) k es) ≡ 1
      → Rises (Ok fit room_at r l) top (splice (deletes l) k es)
  left_old l es g h e =
      let a = splice_length (Ok fit room_at r l) (deletes l) k top es (omega arith) k_top h in
      let b = none_left_lem (deletes l (chosen k es)) (omega arith) in
      rw (splice_cong (Ok fit room_at r l) (deletes l) (λ _. []) k top es (omega arith) k_top h b)
      (splice_rises k (Ok fit room_at r l) (Ok fit room_at r l) (λ _. []) (λ z. z) (λ z. omega arith) (λ z i. omega arith)
      (λ y y' x _ z i. ok_more fit room_at r l y y' x z i) top es (omega arith) k_top h (λ y a b i. (tt, omega arith))).0

  -- the collapse
  pub record Topped (l : ℕ) (c : List Entry) (t : Top) : Type 0 where
    pub pairs_are : gather (under r t.level) t.list ≡ gather (under r l) c
    pub rises : Rises (Ok fit room_at r t.level) top t.list
    pub least : 1 ≤ t.level → 2 ≤ length t.list
    pub atmost : length t.list ≤ most (suc t.level)

  pub topped : ((j : ℕ) → room_at j ≤ most j) → (l : ℕ) (c : List Entry) → 1 ≤ length c → length c ≤ most (suc l)
      → Rises (Ok fit room_at r l) top c
      → Topped l c (collapse r l c)
  unfolding collapse gather under Ok
  topped w zero c g b h = record { pairs_are = refl; rises = h; least = λ z. absurd (omega arith); atmost = b }
  topped w (suc l) [] g b h = absurd (omega arith)
  topped w (suc l) (x ∷ []) g b h =
      let i = h.1 in
      let t = topped w l (r x.addr (suc l)) i.1 (omega (arith, w (suc l), i.2)) i.4 in
      record {
        pairs_are = t.pairs_are ∙ sym (append-nil (gather (under r l) (r x.addr (suc l))));
        rises = t.rises;
        least = t.least;
        atmost =
            t.atmost;
      }
  topped w (suc l) (x ∷ y ∷ c) g b h = record { pairs_are = refl; rises = h; least = λ z. omega arith; atmost = b }

  -- what a root with one entry gives way to, and its page
  abbrev top_at : ℕ → ℕ → Top
  top_at l p = collapse r (suc l) (root_less (suc l) p)

  abbrev top_page : ℕ → ℕ → ℕ
  top_page l p = n (suc (top_at l p).level)

  module _ (wide : (j : ℕ) → room_at j ≤ most j) (l p : ℕ) (h : Rooted fit room_at most top r (suc l) p)
      (m : Making (suc l) (chosen k (r p (suc (suc l)))))
      (one : length (root_less (suc l) p) ≡ 1)
      (e : s (top_page l p) (suc (top_at l p).level) ≡ (top_at l p).list) where
    pub old_list : Rises (Ok fit room_at r (suc l)) top (root_less (suc l) p)
    unfolding at_root
    old_list = left_old (suc l) (r p (suc (suc l))) (h.least (omega arith)) h.rises one

    pub the_top : Topped (suc l) (root_less (suc l) p) (top_at l p)
    the_top = topped wide (suc l) (root_less (suc l) p) (omega arith) (omega (arith, h.atmost, h.least (omega arith))) old_list

    as_old : (j : ℕ) (c : List Entry) → Rises (Ok fit room_at r j) top c → gather (under s j) c ≡ gather (under r j) c
    as_old j c i = gather_eq (under r j) (under s j) c (rises_all (Ok fit room_at r j) (λ x. under s j x ≡ under r j x) top c
        (λ y x _ _ i. under_same fit room_at fit' r s keep same j y x i) i)

    pub collapse_pairs : under s (suc (top_at l p).level) (the (top_page l p)) ≡ remove k (under r (suc (suc l)) (the p))
    unfolding under
    collapse_pairs =
        let t = top_at l p in
        ap (gather (under s t.level)) e ∙ as_old t.level t.list the_top.rises ∙ the_top.pairs_are
        ∙ sym (as_old (suc l) (root_less (suc l) p) old_list)
        ∙ (gone (suc l) (r p (suc (suc l))) h.least h.rises m).pairs_are

    pub collapse_ok : fit' (suc (top_at l p).level) (top_page l p) → Rooted fit' room_at most top s (top_at l p).level
        (top_page l p)
    collapse_ok fn =
        let t = top_at l p in
        record {
          fits = fn;
          least = λ z. rw e (the_top.least z);
          atmost = rw e the_top.atmost;
          rises = rw e (rises_map (Ok fit room_at r t.level) (Ok fit' room_at s t.level) top t.list
              (λ y x _ _ i. ok_same fit room_at fit' r s keep same t.level y x i) the_top.rises);
        }

module _ (k n top : ℕ) (half most : ℕ → ℕ) (r s : Nodes) (fit fit' : ℕ → ℕ → Type 0) (fit_n : (l : ℕ) → fit' (suc l) n)
    (keep : (l a : ℕ) → fit l a → fit' l a) (same : (p l : ℕ) → fit (suc l) p → s p (suc l) ≡ r p (suc l))
    (k_top : k < top) where
  -- all on N
  pub none_made : (l hi : ℕ) (e : Entry) → k < hi → Ok fit (λ l. 2 * half l) r l hi e → deleted r k n l e ≡ []
      → DeleteMade r s k n l e
  none_made = none_held k (λ _. n) half r fit (DeleteHeld n s) (λ l e c i j. absurd (omega (arith, i, j)))
