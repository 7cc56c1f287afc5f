-- Laws by which the export's code is proved. Assumes nothing.
use Rattle.std.specs.Prelude.{ℕ, zero, suc, ◌+◌, ◌-◌, ◌*◌, ◌<◌, ◌≤◌, ◌≡◌, set, Err}
use Rattle.std.proofs.Math.Path.{refl, sym, ap}
use Rattle.std.specs.Int.{w32}
use Rattle.std.proofs.Common.{subst, ◌∙◌, Fits, zero-add, add-one, sub-one, length-append, le-leb}
use mathlib.Core.List.{List, [], ◌∷◌, ◌++◌, append_assoc, append-nil}
use native.Mathlib.Omega.{arith}
use Rattle.std.proofs.Math.ListN.{length, drop}
use Rattle.std.proofs.Math.Seq.{sets, sets-eq, length-sets}
use Rattle.std.proofs.lemmas.Bool.{lt-leb}
use Rattle.geometry.specs.declared.Geometry.{Geometry}
use Rattle.geometry.specs.declared.Broken.{Broken}
use Rattle.geometry.specs.declared.Entry.{Entry}
use Rattle.geometry.specs.Findings.{Sound}
use Rattle.geometry.specs.Shape.{Known}
use Rattle.geometry.proofs.Shape.{shape}
use Rattle.geometry.specs.Bounds.{four_bytes}
use Rattle.model.specs.Bytes.{node_place, node_count, node_at}
use Rattle.model.specs.Image.{Nodes, Chip}
use Rattle.model.specs.Tree.{gather, under, map_of}
use Rattle.model.specs.Calls.{Outcome, gives, by_verdict, judged}
use Rattle.call_answers.specs.declared.Answer.TheVariants.{Length, Damaged}
use Rattle.call_answers.specs.declared.Row.{Row}
use Rattle.call_answers.specs.Answers.{plain, row_of, told_by}
use Rattle.chip_read.specs.Chip.{entry_at, good_blocks, chip_with, naming}
use Rattle.chip_read.specs.Node.{node_read, entries_turn, entries_past}
use Rattle.chip_read.specs.Blocks.{none_good, some_good, some_blocks}
use Rattle.chip_survey.specs.Pass.{chip_is}
use Rattle.sound_verdict.specs.declared.Judgement.{Judgement}
use Rattle.sound_verdict.specs.Verdict.{Judged}
use Rattle.call_list.specs.Few.{few_map}
use Rattle.text_lines.specs.Pieces.{sets_append, sets_snoc}
use Rattle.text_decimals.specs.Decimals.{decimal}
use Rattle.text_decimals.specs.Back.{decimal_short}
use Rattle.text_carrying.specs.Carrying.{record_text, text_of, word, exports, exporting}
use Rattle.call_export.specs.declared.Written.{Written}
use Rattle.call_export.specs.Exporter.{line_text, after, rest, exported_in}

-- ---- a number of 32 bits
module _ (n k at r : ℕ) (ek : k ≡ n) where
  pub value_place : r ≡ at + length (decimal k) → r ≡ at + length (decimal n)
  value_place e = e ∙ rw ek refl

  pub value_short : r ≡ at + length (decimal k) → Fits w32 n → r ≤ at + 10
  value_short e h = let x = decimal_short 9 k (omega (arith, ek, h.fits)) in omega (arith, x, e)

  pub value_bytes : (b c : List ℕ) → c ≡ sets b at (decimal k) → c ≡ sets b at (decimal n)
  value_bytes b c e = e ∙ rw ek refl

-- ---- one line. tab and end are the places after its two numbers
module _ (at : ℕ) (e : Entry) (tab end : ℕ) (et : tab ≡ at + length (decimal e.key))
    (ee : end ≡ tab + 1 + length (decimal e.addr)) where
  pub line_place : end + 1 ≡ at + length (line_text e)
  line_place =
      let p = length-append (decimal e.key) (9 ∷ decimal e.addr) in
      let q = length-append (record_text e) (10 ∷ []) in
      omega (arith, p, q, et, ee)

  pub line_bytes : (b c d f h : List ℕ) → c ≡ sets b at (decimal e.key) → d ≡ set c tab 9
      → f ≡ sets d (tab + 1) (decimal e.addr) → h ≡ set f end 10
      → h ≡ sets b at (line_text e)
  line_bytes b c d f h ec ed ef eh =
      let ks = decimal e.key in
      let vs = decimal e.addr in
      let w = length-append ks (9 ∷ []) in
      let v = length-append (ks ++ (9 ∷ [])) vs in
      let p : tab + 1 ≡ at + length (ks ++ (9 ∷ [])) = omega (arith, w, et) in
      let q : end ≡ at + length ((ks ++ (9 ∷ [])) ++ vs) = omega (arith, w, v, et, ee) in
      let one : d ≡ sets b at (ks ++ (9 ∷ [])) = ed ∙ rw (ec, et) (sets_snoc b at ks 9) in
      let two : f ≡ sets b at ((ks ++ (9 ∷ [])) ++ vs) = ef ∙ (λ i. sets (one i) (p i) vs)
      ∙ sym (sets_append b at (ks ++ (9 ∷ [])) vs) in
      eh ∙ (λ i. set (two i) (q i) 10) ∙ sets_snoc b at ((ks ++ (9 ∷ [])) ++ vs) 10 ∙ ap (λ (l : List ℕ). sets b at
      (l ++ (10 ∷ []))) (append_assoc ks (9 ∷ []) vs)

-- ---- records one after the other
text_append : (xs ys : List Entry) → text_of (xs ++ ys) ≡ text_of xs ++ text_of ys
unfolding text_of
text_append [] ys = refl
text_append (x ∷ xs) ys = ap (λ (l : List ℕ). line_text x ++ l) (text_append xs ys)
    ∙ sym (append_assoc (line_text x) (text_of xs) (text_of ys))

after_append : (w : Written) (xs ys : List Entry) → after w (xs ++ ys) ≡ after (after w xs) ys
after_append w xs ys =
    let a = length-append xs ys in
    let b = ap length (text_append xs ys) ∙ length-append (text_of xs) (text_of ys) in
    let p : w.records + length (xs ++ ys) ≡ w.records + length xs + length ys = omega (arith, a) in
    let q : w.at + length (text_of (xs ++ ys)) ≡ w.at + length (text_of xs) + length (text_of ys) = omega (arith, b) in
    λ i. record { records = p i; at = q i }

sets_text : (b : List ℕ) (at : ℕ) (xs ys : List Entry) → sets b at (text_of (xs ++ ys)) ≡ sets (sets b at (text_of xs))
    (at + length (text_of xs)) (text_of ys)
sets_text b at xs ys = ap (sets b at) (text_append xs ys) ∙ sets_append b at (text_of xs) (text_of ys)

-- ---- a node
under_node : (r : Nodes) (l : ℕ) (e : Entry) → (l ≡ 0 → ⊥) → under r l e ≡ gather (under r (l - 1)) (r e.addr l)
unfolding under
under_node r zero e h = absurd (h refl)
under_node r (suc l) e h = rw sub-one refl

module _ (g : Geometry) (img : List ℕ) (l at n : ℕ) where
  rest_start : (e : Entry) → at ≡ node_place g e.addr l → n ≡ node_count g img e.addr l → (l ≡ 0 → ⊥)
      → under (node_at g img) l e ≡ rest g img l at n 0
  unfolding rest
  rest_start e ea en some =
      let p : at + 8 * 0 ≡ at = omega arith in
      let q : n - 0 ≡ n = omega arith in
      under_node (node_at g img) l e some ∙ rw (← (node_read g img e.addr l at n ea en), p, q) refl

  rest_turn : (i : ℕ) (b : Entry) → b ≡ entry_at img (at + 8 * i) → i < n → rest g img l at n i ≡ under (node_at g img)
      (l - 1) b ++ rest g img l at n (i + 1)
  unfolding rest gather
  rest_turn i b eb h = rw (entries_turn img at n i h, ← eb) refl

  rest_past : (i : ℕ) → n ≤ i → rest g img l at n i ≡ []
  unfolding rest gather
  rest_past i h = rw (entries_past img at n i h) refl

-- ---- one record
module _ (w : Written) (e : Entry) where
  one_text : text_of (e ∷ []) ≡ line_text e
  unfolding text_of
  one_text = append-nil (line_text e)

  pub one_count : (end : ℕ) → end ≡ w.at + length (line_text e) → record { records = w.records + 1; at = end }
      ≡ after w (e ∷ [])
  one_count end h = let q : end ≡ w.at + length (text_of (e ∷ [])) = h ∙ ap (λ (m : List ℕ). w.at + length m)
      (sym one_text) in λ i. record { records = w.records + 1; at = q i }

  pub one_bytes : (b d : List ℕ) → d ≡ sets b w.at (line_text e) → d ≡ sets b w.at (text_of (e ∷ []))
  one_bytes b d h = h ∙ ap (sets b w.at) (sym one_text)

-- ---- level 0: the record itself
module _ (g : Geometry) (img : List ℕ) (l : ℕ) (e : Entry) (w : Written) (z : l ≡ 0) where
  level_is : under (node_at g img) l e ≡ e ∷ []
  unfolding under
  level_is = rw z refl

  pub level_few : w.records + length (under (node_at g img) l e) < four_bytes → w.records < four_bytes
  level_few h = omega arith

  pub level_count : (r : Written) → r ≡ after w (e ∷ []) → r ≡ after w (under (node_at g img) l e)
  level_count r h = h ∙ ap (after w) (sym level_is)

  pub level_bytes : (b d : List ℕ) → d ≡ sets b w.at (text_of (e ∷ [])) → d ≡ sets b w.at
      (text_of (under (node_at g img) l e))
  level_bytes b d h = h ∙ ap (λ (es : List Entry). sets b w.at (text_of es)) (sym level_is)

-- ---- the loop over a node's entries: v the writer's place and d the text at entry i
module _ (g : Geometry) (img : List ℕ) (l at n i : ℕ) (e : Entry) (eb : e ≡ entry_at img (at + 8 * i)) (h : i < n) where
  turn_long : length (rest g img l at n i) ≡ length (under (node_at g img) (l - 1) e) + length (rest g img l at n
      (i + 1))
  turn_long = ap length (rest_turn g img l at n i e eb h)
      ∙ length-append (under (node_at g img) (l - 1) e) (rest g img l at n (i + 1))

  -- fewer than 2^32 records with those below an entry
  pub turn_few : (w v : Written) → w.records + length (rest g img l at n 0) < four_bytes → after w (rest g img l at n 0)
      ≡ after v (rest g img l at n i)
      → v.records + length (under (node_at g img) (l - 1) e) < four_bytes
  turn_few w v few inv = let q = turn_long in let p = ap (λ (y : Written). y.records) inv in omega (arith, q, p, few)

  pub turn_count : (x v v' : Written) → x ≡ after v (rest g img l at n i)
      → v' ≡ after v (under (node_at g img) (l - 1) e) → x ≡ after v' (rest g img l at n (i + 1))
  turn_count x v v' inv ev = inv ∙ ap (after v) (rest_turn g img l at n i e eb h)
      ∙ after_append v (under (node_at g img) (l - 1) e) (rest g img l at n (i + 1))
      ∙ ap (λ (y : Written). after y (rest g img l at n (i + 1))) (sym ev)

  pub turn_bytes : (x d d' : List ℕ) (v v' : Written) → x ≡ sets d v.at (text_of (rest g img l at n i))
      → v' ≡ after v (under (node_at g img) (l - 1) e)
      → d' ≡ sets d v.at (text_of (under (node_at g img) (l - 1) e)) → x ≡ sets d' v'.at
      (text_of (rest g img l at n (i + 1)))
  turn_bytes x d d' v v' inv ev ed = inv ∙ ap (λ (es : List Entry). sets d v.at (text_of es)) (rest_turn g img l at n i e eb h)
      ∙ sets_text d v.at (under (node_at g img) (l - 1) e) (rest g img l at n (i + 1))
      ∙ (λ j. sets (sym ed j) (sym ev j).at (text_of (rest g img l at n (i + 1))))

module _ (g : Geometry) (img : List ℕ) (l at n : ℕ) (e : Entry) (w : Written) (ea : at ≡ node_place g e.addr l)
    (en : n ≡ node_count g img e.addr l) (some : l ≡ 0 → ⊥) where
  all_is : under (node_at g img) l e ≡ rest g img l at n 0
  all_is = rest_start g img l at n e ea en some

  pub start_few : w.records + length (under (node_at g img) l e) < four_bytes
      → w.records + length (rest g img l at n 0) < four_bytes
  start_few few = subst (λ (es : List Entry). w.records + length es < four_bytes) all_is few

  pub end_count : (i : ℕ) (v : Written) → after w (rest g img l at n 0) ≡ after v (rest g img l at n i) → n ≤ i
      → v ≡ after w (under (node_at g img) l e)
  unfolding text_of
  end_count i v inv p =
      let none = rest_past g img l at n i p in
      let here : after v [] ≡ v = let x : v.records + 0 ≡ v.records = omega arith in let y : v.at + 0 ≡ v.at =
      omega arith in λ j. record { records = x j; at = y j } in
      sym (ap (after w) all_is ∙ inv ∙ ap (after v) none ∙ here)

  pub end_bytes : (i : ℕ) (b d : List ℕ) (v : Written) → sets b w.at (text_of (rest g img l at n 0)) ≡ sets d v.at
      (text_of (rest g img l at n i)) → n ≤ i
      → d ≡ sets b w.at (text_of (under (node_at g img) l e))
  unfolding text_of
  end_bytes i b d v inv p =
      let none = rest_past g img l at n i p in
      sym (ap (λ (es : List Entry). sets b w.at (text_of es)) all_is ∙ inv
      ∙ ap (λ (es : List Entry). sets d v.at (text_of es)) none)

pub text_same : (b d : List ℕ) (at : ℕ) (xs : List ℕ) → d ≡ sets b at xs → length d ≡ length b
text_same b d at xs e = ap length e ∙ length-sets b at xs

-- ---- a tree
module _ (g : Geometry) (img : List ℕ) (l p : ℕ) where
  abbrev all : List Entry
  all = map_of (chip_with g img l p)

  tree_is : under (node_at g img) (l + 1) (naming p) ≡ all
  tree_is = ap (λ (m : ℕ). under (node_at g img) m (naming p)) (add-one l)

  pub tree_few : length all < four_bytes → 0 + length (under (node_at g img) (l + 1) (naming p)) < four_bytes
  tree_few h = let q = ap length tree_is in omega (arith, q, h)

  -- what the first walk counts
  module _ (m : Written) (em : m ≡ after (record { records = 0; at = 0 }) (under (node_at g img) (l + 1) (naming p)))
    where
      count_is : m.records ≡ length all
      count_is = ap (λ (w : Written). w.records) em ∙ zero-add _ ∙ ap length tree_is

      size_is : m.at ≡ length (text_of all)
      size_is = ap (λ (w : Written). w.at) em ∙ zero-add _ ∙ ap (λ (es : List Entry). length (text_of es)) tree_is

      module _ (n s : ℕ) (en : n ≡ word m.records) (es : s ≡ word m.at) (few : length all < four_bytes) where
        n_is : n ≡ length all
        n_is = let q = count_is in omega (arith, en, q, few)

        s_is : s ≡ word (length (text_of all))
        s_is = es ∙ ap word size_is

        pub tree_short : (b : List ℕ) (r : Row) → length b < m.at → r ≡ plain 0 n s 0 → told_by r b ≡ exports all b
        unfolding exports
        tree_short b r h e =
            let q = size_is in
            ap (λ (x : Row). told_by x b) e ∙ (λ i. gives 0 (n_is i) (s_is i) 0 b)
            ∙ sym (rw (lt-leb (length (text_of all)) (length b) (omega (arith, q, h))) refl)

        pub tree_whole : (b d : List ℕ) (r : Row) → m.at ≤ length b
            → d ≡ sets b 0 (text_of (under (node_at g img) (l + 1) (naming p))) → r ≡ plain 0 n s s
            → told_by r d ≡ exports all b
        unfolding exports
        tree_whole b d r h ed e =
            let q = size_is in
            let fit : length (text_of all) ≤ length b = omega (arith, q, h) in
            let f : d ≡ text_of all ++ drop (length (text_of all)) b =
            ed ∙ ap (λ (es : List Entry). sets b 0 (text_of es)) tree_is ∙ sets-eq (text_of all) b 0 (omega (arith, fit))
            ∙ ap (λ (j : ℕ). text_of all ++ drop j b) (zero-add (length (text_of all))) in
            ap (λ (x : Row). told_by x d) e ∙ (λ i. gives 0 (n_is i) (s_is i) (s_is i) (f i))
            ∙ sym (rw (le-leb (length (text_of all)) (length b) fit) refl)

-- ---- a judged image
module _ (g : Geometry) (n : ℕ) (img : List ℕ) (j : Judgement) (t u : List ℕ) (x : Judged g n img j t u) where
  pub sound_few : Known g → j.verdict ≡ Sound
      → length (map_of (chip_with g img j.survey.level j.survey.root)) < four_bytes
  sound_few known e = subst (λ (c : Chip). length (map_of c) < four_bytes) (sym (chip_is g n img j.survey x.survey))
      (few_map g n img known (sym x.verdict ∙ e))

  pub exported_broken : (d : Broken) (b : List ℕ) (w : Row) → j.verdict ≡ Err d → w ≡ row_of (Damaged d.rule d.page)
      → told_by w b ≡ exported_in g n img b
  unfolding exported_in by_verdict
  exported_broken d b w e f = ap (λ (y : Row). told_by y b) f ∙ sym (simp (← x.verdict, e))

  pub exported_sound : (b : List ℕ) (o : Outcome) → j.verdict ≡ Sound
      → o ≡ exports (map_of (chip_with g img j.survey.level j.survey.root)) b → o ≡ exported_in g n img b
  unfolding exported_in by_verdict
  exported_sound b o e f =
      f ∙ ap (λ (c : Chip). exports (map_of c) b) (chip_is g n img j.survey x.survey)
      ∙ sym (simp (← x.verdict, e))

module _ (g : Geometry) (img : List ℕ) (n : ℕ) (b : List ℕ) (en : n ≡ good_blocks g img) where
  pub export_length : (w : Row) → n ≡ 0 → w ≡ row_of Length → told_by w b ≡ exporting g img b
  unfolding exporting judged
  export_length w z f = ap (λ (y : Row). told_by y b) f ∙ sym (simp (none_good g img n en z))

  pub export_blocks : (o : Outcome) → (n ≡ 0 → ⊥) → o ≡ exported_in g n img b → o ≡ exporting g img b
  unfolding exporting judged exported_in
  export_blocks o h e = e ∙ sym (simp (some_good g img n en h, ← (some_blocks g img n en h)))

pub known_pages : (g : Geometry) → Known g → g.pages ≤ 64
known_pages g known = (shape g known).pages_high

pub ruleset value_laws = (value_place, value_short, value_bytes)

pub ruleset record_laws = (one_count, one_bytes, text_same)

pub ruleset exporter_laws = (tree_few, tree_short, tree_whole, sound_few, exported_broken, exported_sound, export_length, export_blocks, known_pages, level_few, level_count, level_bytes, turn_few, turn_count, turn_bytes, start_few, end_count, end_bytes, text_same)
