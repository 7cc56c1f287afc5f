-- A text that is read as records is the text of those records; their keys rise, and their numbers have 32 bits. And
-- what a refused insert leaves to those after it. Assumes nothing.
use Rattle.std.specs.Prelude.{◌≡◌, refl, List, [], ◌∷◌, ◌++◌, Bool, true, false, ℕ, suc, ◌+◌, ◌*◌, ◌<◌, ◌≤◌, leb, ltb, length, None, Option, Some}
use Rattle.std.proofs.Common.{sym, subst, ◌∙◌, append_assoc, arith, length-append, leb-true, ltb-true, ne_eqb}
use Rattle.geometry.specs.declared.Geometry.{Geometry}
use Rattle.geometry.specs.declared.Entry.{Entry}
use Rattle.geometry.specs.Tests.{pick}
use Rattle.geometry.specs.Bounds.{four_bytes}
use Rattle.model.specs.Calls.{Outcome}
use Rattle.text_lines.specs.Lines.{pieces, lines, fields}
use Rattle.text_lines.specs.Pieces.{joined, pieces_join}
use Rattle.text_decimals.specs.Decimals.{number_of, decimal}
use Rattle.text_decimals.specs.Back.{decimal_short, number_back, number_most}
use Rattle.text_carrying.specs.Carrying.{record_text, text_of, pair, record_of, Reading, records, bad, with, most_records, read_line, read_rest, read_lines, read_text, store_one, store_all}

-- keys rise from low on, and all numbers have 32 bits
abbrev pub Rises : ℕ → List Entry → Type 0
Rises low [] = Unit {0}
Rises low (e ∷ es) = (low ≤ e.key) × (e.key < four_bytes) × (e.addr < four_bytes) × Rises (suc e.key) es

-- a line has at most 22 bytes
pub text_short : (low : ℕ) (es : List Entry) → Rises low es → length (text_of es) ≤ 22 * length es
unfolding text_of
text_short low [] h = omega arith
text_short low (e ∷ es) h =
    let k = decimal_short 9 e.key (omega (arith, h.1)) in
    let a = decimal_short 9 e.addr (omega (arith, h.2)) in
    let i = text_short (suc e.key) es h.3 in
    let p = length-append (decimal e.key) (9 ∷ decimal e.addr) in
    let q = length-append (record_text e) (10 ∷ []) in
    let w = length-append (record_text e ++ (10 ∷ [])) (text_of es) in
    omega (arith, k, a, i, p, q, w)

-- what a line is read as: its record's line is the line, and both numbers have 32 bits
pub record Fits (l : List ℕ) (e : Entry) : Type 0 where
  pub same : record_text e ≡ l
  pub key_low : e.key < four_bytes
  pub addr_low : e.addr < four_bytes

record_fits : (l : List ℕ) (e : Entry) → record_of (fields l) ≡ Some e → Fits l e
unfolding record_of pair joined
record_fits l e h = go (pieces 9 l).ended (pieces 9 l).rest (pieces_join 9 l) h
  where
    both : (k a : List ℕ) (x y : Option ℕ) → number_of k ≡ x → number_of a ≡ y → pair x y ≡ Some e → Fits (k ++ (9 ∷ a)) e
    both k a None y p q i = absurd (cc)
    both k a (Some x) None p q i = absurd (cc)
    both k a (Some x) (Some y) p q i =
        let z : record { key = x; addr = y } ≡ e = cc in
        subst (Fits (k ++ (9 ∷ a))) z (record {
          same = rw (number_back k x p, number_back a y q) refl;
          key_low = let m = number_most k x p in omega (arith, m);
          addr_low = let m = number_most a y q in omega (arith, m);
        })

    go : (E : List (List ℕ)) (R : List ℕ) → joined 9 E R ≡ l → record_of (E ++ (R ∷ [])) ≡ Some e → Fits l e
    go [] R j i = absurd (cc)
    go (k ∷ []) R j i = subst (λ m. Fits m e) (sym (append_assoc k (9 ∷ []) R)
        ∙ j) (both k R (number_of k) (number_of R) refl refl i)
    go (k ∷ x ∷ []) R j i = absurd (cc)
    go (k ∷ x ∷ y ∷ E) R j i = absurd (cc)

-- what a text is read as, after i lines: its records' text is the text, their keys rise, and there are at most 4,096
-- with those before
pub record Read (i low : ℕ) (text : List ℕ) (es : List Entry) : Type 0 where
  pub same : text_of es ≡ text
  pub rises : Rises low es
  pub few : (1 ≤ length es) → i + length es ≤ most_records

abbrev Good : ℕ → ℕ → List ℕ → Reading → Type 0
Good i low text (records es) = Read i low text es
Good i low text (bad line) = Unit {0}

reads : (i low : ℕ) (ls : List (List ℕ)) (rest : List ℕ) → Good i low (joined 10 ls rest) (read_lines i low ls rest)
unfolding read_lines read_rest read_line with text_of joined
reads i low [] [] = record { same = refl; rises = tt; few = λ h. absurd (omega arith) }
reads i low [] (b ∷ bs) = tt
reads i low (l ∷ ls) rest = go (record_of (fields l)) refl (λ above. reads (suc i) above ls rest)
  where
    more : (e : Entry) (rd : Reading) → Fits l e → i < most_records → low ≤ e.key → Good (suc i) (suc e.key)
        (joined 10 ls rest) rd
        → Good i low ((l ++ (10 ∷ [])) ++ joined 10 ls rest) (with e rd)
    more e (records []) f h k r = record {
      same = rw (f.same, r.same) refl;
      rises = (k, f.key_low, f.addr_low, r.rises);
      few = λ _. omega (arith, h);
    }
    more e (records (x ∷ xs)) f h k r = record {
      same = rw (f.same, r.same) refl;
      rises = (k, f.key_low, f.addr_low, r.rises);
      few = λ _. let w = r.few (omega arith) in omega (arith, w);
    }
    more e (bad line) f h k r = tt

    test : (e : Entry) (t u : Bool) → ltb i most_records ≡ t → leb low e.key ≡ u → Fits l e
        → Good (suc i) (suc e.key) (joined 10 ls rest) (read_lines (suc i) (suc e.key) ls rest)
        → Good i low ((l ++ (10 ∷ [])) ++ joined 10 ls rest)
        (pick t (pick u (with e (read_lines (suc i) (suc e.key) ls rest)) (bad (suc i))) (bad (suc i)))
    test e true true p q f r = more e (read_lines (suc i) (suc e.key) ls rest) f (ltb-true i most_records p) (leb-true low e.key q) r
    test e true false p q f r = tt
    test e false u p q f r = tt

    go : (o : Option Entry) → record_of (fields l) ≡ o → ((above : ℕ) → Good (suc i) above (joined 10 ls rest)
        (read_lines (suc i) above ls rest))
        → Good i low ((l ++ (10 ∷ [])) ++ joined 10 ls rest)
        (read_line i low o (λ above. read_lines (suc i) above ls rest))
    go None h ih = tt
    go (Some e) h ih = test e (ltb i most_records) (leb low e.key) refl refl (record_fits l e h) (ih (suc e.key))

module _ (text : List ℕ) (es : List Entry) (h : read_text text ≡ records es) where
  read : Read 0 0 text es
  read = subst (Good 0 0 text) h (subst (λ t. Good 0 0 t (read_text text)) (pieces_join 10 text) (reads 0 0 (lines text).ended (lines text).rest))

  -- a text that is read as records is the text that export writes of them
  pub text_of_read : text_of es ≡ text
  text_of_read = read.same

  pub read_rises : Rises 0 es
  read_rises = read.rises

  pub read_few : length es ≤ most_records
  read_few = go es read.few
    where
      go : (es : List Entry) → (1 ≤ length es → 0 + length es ≤ most_records) → length es ≤ most_records
      go [] f = omega arith
      go (x ∷ xs) f = let w = f (omega arith) in omega (arith, w)

-- ---- after a refusal nothing more is stored
pub refused_stays : (g : Geometry) (s : Outcome) (es : List Entry) → (s.answer ≡ 0 → ⊥) → store_all g s es ≡ s
unfolding store_all store_one
refused_stays g s [] h = refl
refused_stays g s (e ∷ es) h = rw (ne_eqb s.answer 0 h) (refused_stays g s es h)
