-- A deletion's own store on bytes. Assumes nothing.
use Rattle.std.specs.Prelude.{◌≡◌, Bool, ℕ, zero, suc, ◌+◌, ◌-◌, ◌*◌, ◌<◌, ◌≤◌, length, eqb, is_none}
use Rattle.std.proofs.Math.Path.{refl, ap}
use Rattle.std.proofs.Common.{sym, subst, ◌∙◌, eq-eqb, ne_eqb}
use mathlib.Core.List.{List, [], ◌∷◌}
use Rattle.std.proofs.Math.Bool.{true, false}
use native.Mathlib.Omega.{arith}
use Rattle.std.proofs.Math.Dec.{leb}
use Rattle.std.proofs.lemmas.Bool.{lt-leb}
use Rattle.geometry.specs.declared.Geometry.{Geometry}
use Rattle.geometry.specs.declared.Entry.{Entry}
use Rattle.geometry.specs.Tests.{pick, ◌&◌, and_true, and_false}
use Rattle.geometry.specs.Geometry.{slots_of, half}
use Rattle.geometry.specs.Shape.{Shape, shape_core}
use Rattle.geometry.specs.Bounds.{four_bytes}
use Rattle.model.specs.Count.{count, peak}
use Rattle.model.specs.Image.{pages_of, max_seq, Nodes, Chip, chip_of, the_root}
use Rattle.model.specs.Tree.{map_of, sought}
use Rattle.model.specs.Next.{ahead, next_page, after, taken}
use Rattle.model.specs.Stores.{apply_all}
use Rattle.model.specs.Edit.{remove, remove_in, kept, Top, collapse}
use Rattle.model.specs.Update.{side_page, delete_list, delete_top, delete_part, delete_store}
use Rattle.theory_counts.specs.Cases.{by_eq}
use Rattle.theory_lists.specs.All.{All}
use Rattle.theory_nodes.specs.Nodes.{fit_of}
use Rattle.theory_trees.specs.Lengths.{splice_all, splice_most, path_all, path_most}
use Rattle.theory_chips.specs.Whole.{some_page, Whole}
use Rattle.theory_chips.specs.Collect.{R8}
use Rattle.theory_chips.specs.Pages.{side_erased, new_side}
use Rattle.theory_chips.specs.Deletion.{left_list, top_low}
use Rattle.theory_chips.proofs.Deletion.{delete_done, top_most}
use Rattle.live_beside.specs.Update.{delete_crest}
use Rattle.theory_images.specs.Bytes.{Fits}
use Rattle.theory_images.specs.Views.{rooted}
use Rattle.theory_images.specs.Page.{in_table_lem}
use Rattle.theory_images.specs.Built.{Parts, built_view}
use Rattle.theory_images.specs.Small.{node_fits}
use Rattle.theory_images.specs.Held.{height_most}
use Rattle.theory_images.specs.Writes.{next_store}
use Rattle.theory_updates.specs.Along.{Keeps, runs_none}
use Rattle.theory_updates.specs.Table.{parts_most}
use Rattle.theory_updates.specs.Topped.{topped}
use Rattle.theory_updates.specs.Updated.{Stands, Updated, updated}

pub remove_fits : (k : ℕ) (es : List Entry) → All Fits es → All Fits (remove_in k es)
unfolding remove_in
remove_fits k es h = splice_all Fits (λ x. remove k (x ∷ [])) k es one h
  where
    one : (e : Entry) → Fits e → All Fits (remove k (e ∷ []))
    one e f = go (eqb e.key k)
      where
        go : (t : Bool) → All Fits (pick t [] (e ∷ []))
        go true = tt
        go false = (f, tt)

pub remove_most : (k : ℕ) (es : List Entry) → length (remove_in k es) ≤ length es + 0
unfolding remove_in
remove_most k es = splice_most (λ x. remove k (x ∷ [])) k 0 es one
  where
    one : (e : Entry) → length (remove k (e ∷ [])) ≤ 1
    one e = go (eqb e.key k)
      where
        go : (t : Bool) → length (pick t [] (e ∷ [])) ≤ 1
        go true = omega arith
        go false = omega arith

pub kept_fits : (n : ℕ) → n < four_bytes → (l : ℕ) (e : Entry) (c : List Entry) → Fits e → All Fits c
    → All Fits (kept n l e c)
kept_fits n q l e [] f h = tt
kept_fits n q l e (x ∷ c) f h = ((f.0, q), tt)

pub kept_most : (n l : ℕ) (e : Entry) (c : List Entry) → length (kept n l e c) ≤ 1
kept_most n l e [] = omega arith
kept_most n l e (x ∷ c) = omega arith

-- the collapsed root is a node or the list itself
pub collapse_all : (P : Entry → Type 0) (r : Nodes) → ((q l : ℕ) → All P (r q l)) → (l : ℕ) (c : List Entry) → All P c
    → All P (collapse r l c).list
unfolding collapse
collapse_all P r all zero c h = h
collapse_all P r all (suc l) [] h = h
collapse_all P r all (suc l) (x ∷ []) h = collapse_all P r all l (r x.addr (suc l)) (all x.addr (suc l))
collapse_all P r all (suc l) (x ∷ y ∷ c) h = h

module _ (g : Geometry) (shape : Shape g) (n : ℕ) (few : pages_of g n + g.pages < four_bytes) (k : ℕ)
    (k_low : k < four_bytes)
    (base : List Entry) (img : List ℕ) (keeps : Keeps g n base img) (present : is_none (sought (chip_of g n img) k)
    ≡ false)
    (room : g.pages + 1 ≤ count (pages_of g n) (chip_of g n img).er) (low : max_seq g n img + 1 < 4294967295) where
  abbrev c : Chip
  c = chip_of g n img

  abbrev t : ℕ
  t = pages_of g n

  abbrev N : ℕ
  N = side_page g n c 1

  abbrev whole : Whole g n c
  whole = keeps.held.whole

  abbrev lists : ℕ → List Entry
  lists = delete_list c k N

  abbrev top : Top
  top = delete_top c k N

  free : 1 ≤ count t c.er
  free = omega (arith, room)

  N-in : N < t
  N-in = (side_erased g (shape_core g shape) n c whole.r2 1 free 1 (omega arith) (omega arith)).1

  high : suc c.level ≤ g.top
  high = height_most g (shape_core g shape) n img (omega (arith, N-in)) keeps.held

  all_fit : (q l : ℕ) → All Fits (c.nodes q l)
  all_fit = node_fits g img keeps.held.bytes

  lists_fit : (j : ℕ) → All Fits (lists j)
  unfolding delete_list
  lists_fit j = path_all c.nodes k (remove_in k) (kept N) Fits (remove_fits k) (kept_fits N (omega (arith, N-in, few))) all_fit c.level
      (the_root c) j

  lists_most : (j : ℕ) → 1 ≤ j → j ≤ c.level → length (lists j) ≤ slots_of g j
  unfolding delete_list
  lists_most j b d =
      let w = path_most c.nodes k (remove_in k) (kept N) 0 (remove_most k) (kept_most N) (fit_of t c.er) (λ l. 2 * half g l) c.level four_bytes
      (the_root c) (λ i. let z = whole.sound.rooted.least i in
      omega (arith, z)) whole.sound.rooted.rises j b d in
      let e = shape.even j in
      omega (arith, w, e)

  lower : top.level ≤ c.level
  lower = top_low g shape n k k_low c whole present

  top_fits : All Fits top.list
  unfolding delete_top
  top_fits = collapse_all Fits c.nodes all_fit c.level (lists (suc c.level)) (lists_fit (suc c.level))

  parts : Parts g (left_list g n c k)
  unfolding delete_part
  parts = parts_most g shape (suc top.level) (left_list g n c k) (omega arith) (omega (arith, lower, high))
      (λ l _ _. fits l (eqb l (suc top.level)) (eqb top.level c.level & leb l c.level))
      (λ l b q. rw (ne_eqb l (suc top.level) (λ z. omega (arith, z, q))) (within l b (omega (arith, q, lower))
      (eqb top.level c.level & leb l c.level)))
      (rw (eq-eqb (suc top.level) (suc top.level) refl) (top_most g shape n k k_low c whole present free high))
      (λ l q. rw (ne_eqb l (suc top.level) (λ z. omega (arith, z, q))) (none l q))
    where
      fits : (l : ℕ) (x y : Bool) → All Fits (pick x top.list (pick y (lists l) []))
      fits l true y = top_fits
      fits l false true = lists_fit l
      fits l false false = tt

      within : (l : ℕ) → 1 ≤ l → l ≤ c.level → (y : Bool) → length (pick y (lists l) []) ≤ slots_of g l
      within l b d true = lists_most l b d
      within l b d false = omega arith

      none : (l : ℕ) → suc top.level < l → pick (eqb top.level c.level & leb l c.level) (lists l) [] ≡ []
      none l q = by_eq top.level c.level
          (λ e. rw (eq-eqb top.level c.level e, lt-leb l c.level (omega (arith, e, q)), and_true false) refl)
          (λ e. rw (ne_eqb top.level c.level e, and_false (leb l c.level)) refl)

  abbrev height : ℕ
  height = suc top.level

  module _ (q : ℕ) (number_is_lem : q ≡ suc (peak t c.seq)) where
    abbrev e' : Chip
    e' = rooted c (next_page g.pages n (ahead g n c)) (built_view g q height (left_list g n c k))

    page_is : next_page g.pages n (ahead g n c) ≡ N
    unfolding taken
    page_is = refl

    er_is : after N c.er ≡ (taken g.pages n (ahead g n c) 1).er
    unfolding taken
    er_is = refl

    at_n : (j : ℕ) → 1 ≤ j → j ≤ g.top → e'.nodes N j ≡ left_list g n c k j
    unfolding rooted taken
    at_n j b h = rw (eq-eqb N N refl, in_table_lem g j b h) refl

    stays : (p l : ℕ) → fit_of t c.er (suc l) p → e'.nodes p (suc l) ≡ c.nodes p (suc l)
    unfolding rooted taken
    stays p l h = rw (ne_eqb p N (λ z. new_side g (shape_core g shape) n c whole.r2 1 free 1 l (omega arith) (omega arith)
        (subst (fit_of t c.er (suc l)) z h))) refl

    final_is : e' ≡ record {
      er = (taken g.pages n (ahead g n c) 1).er;
      seq = e'.seq;
      nodes = e'.nodes;
      level = top.level;
      root = N;
    }
    unfolding rooted taken
    final_is = let z : height - 1 ≡ top.level = omega arith in
        λ i. record { er = after N c.er; seq = e'.seq; nodes = e'.nodes; level = z i; root = N }

    final_done : Whole g n e' × (map_of e' ≡ remove k (map_of c)) × R8 g n e' × Stands g n c 1 (delete_crest c N k) e'
    final_done =
        let w = delete_done g shape n k k_low c whole present free e'.nodes e'.seq at_n stays high in (
          subst (Whole g n) (sym final_is) w.0,
          ap map_of final_is ∙ w.1,
          subst (R8 g n) (sym final_is) (omega (arith, w.2, keeps.r8)),
          record {
            root_is = ap (λ (x : Chip). x.root) final_is;
            level_is = ap (λ (x : Chip). x.level) final_is;
            topped = topped g shape n c c 0 1 (built_view g q height (left_list g n c k)) whole.r2
                (let p = some_page g (shape_core g shape) in omega (arith, room, p))
                number_is_lem (omega arith) (omega arith) refl;
          },
        )

  store_is : delete_store g n (max_seq g n img) c k ≡ next_store g n height (left_list g n c k) img
  unfolding delete_store next_store taken
  store_is = refl

  -- the deletion's own store
  pub delete_own : Updated g n (Stands g n c 1 (delete_crest c N k)) base (remove k base) img
      (delete_store g n (max_seq g n img) c k ∷ []) 1 0
  unfolding apply_all
  delete_own =
      updated g shape n (Stands g n c 1 (delete_crest c N k)) base (remove k base) img [] c 0 0 height (left_list g n c k) (delete_store g n (max_seq g n img) c k)
      (runs_none g n base img 0 0 keeps) room (omega (arith, low)) parts (omega arith) (omega (arith, lower, high)) store_is
      (λ q num. let w = final_done q num in (w.0, w.1 ∙ ap (remove k) keeps.map_is, w.2, w.3))
