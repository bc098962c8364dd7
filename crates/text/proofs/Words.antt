-- The words of some bytes, one after the other, and why so many bytes are enough. Assumes nothing.
use Prim.Native.Nat.{ℕ, zero, suc, ◌+◌, ◌*◌, ◌≤◌, ◌<◌}
use mathlib.Core.Path.{◌≡◌, refl, sym, ap, ◌∙◌}
use mathlib.Core.List.{List, [], ◌∷◌, ◌++◌, append-nil, append_assoc}
use native.Mathlib.Omega.{arith}
use native.Mathlib.Numerals.{add-one}
use native.Mathlib.Decide.{dec_le}
use borrow.Author.Tests.{lt-ltb}
use lib.Dec.{lit<}
use mir.Syntax.{w32}
use Rattle.std.specs.Int.{from_le_bytes}
use Rattle.std.specs.Simd.{first_chunks}
use lib.ListN.{length, take, drop, set, get_or, length-drop, length-set}
use lib.Seq.{drop-drop, take-suc-set, take_all, length-take-le}
use Rattle.word.specs.Model.{Model}
use Rattle.word.specs.Answer.{Answer, refused, then}
use Rattle.model.specs.Reading.{most_words, read, first_of}
use Rattle.tree.specs.Report.{answer, walked}
use Rattle.text.specs.Bytes.{word, words_of, words_size, most_bytes, Spelled}
use Rattle.text.specs.Faithful.{AnswerEnough}

-- ---- from the front

-- the word of a list's first four bytes
abbrev pub word_at : List ℕ → ℕ
word_at l = word (get_or l 0 0) (get_or l 1 0) (get_or l 2 0) (get_or l 3 0)

pub next_word : (l : List ℕ) → 4 ≤ length l → words_of l ≡ word_at l ∷ words_of (drop 4 l)
unfolding words_of
next_word [] h = absurd (omega arith)
next_word (a ∷ []) h = absurd (omega arith)
next_word (a ∷ b ∷ []) h = absurd (omega arith)
next_word (a ∷ b ∷ c ∷ []) h = absurd (omega arith)
next_word (a ∷ b ∷ c ∷ d ∷ rest) h = refl

pub no_word : (l : List ℕ) → length l ≤ 0 → words_of l ≡ []
unfolding words_of
no_word [] h = refl
no_word (a ∷ l) h = absurd (omega arith)

pub left_over : (l : List ℕ) → 0 < length l → length l < 4 → words_of l ≡ 0 ∷ []
unfolding words_of
left_over [] h k = absurd (omega arith)
left_over (a ∷ []) h k = refl
left_over (a ∷ b ∷ []) h k = refl
left_over (a ∷ b ∷ c ∷ []) h k = refl
left_over (a ∷ b ∷ c ∷ d ∷ rest) h k = absurd (omega arith)

-- ---- a chunk of four bytes, and its word

chunk_at : (k i : ℕ) (l d : List ℕ) → i < k → get_or (first_chunks 4 k l) i d ≡ take 4 (drop (4 * i) l)
chunk_at zero i l d h = absurd (omega arith)
chunk_at (suc k) zero l d h = refl
chunk_at (suc k) (suc i) l d h =
    let e : 4 * suc i ≡ 4 + 4 * i = omega arith in
    chunk_at k i (drop 4 l) d (omega arith) ∙ ap (take 4) (drop-drop (4 * i) 4 l ∙ ap (λ (j : ℕ). drop j l) (sym e))

word_of_four : (l : List ℕ) → 4 ≤ length l → from_le_bytes w32 (take 4 l) ≡ word_at l
word_of_four [] h = absurd (omega arith)
word_of_four (a ∷ []) h = absurd (omega arith)
word_of_four (a ∷ b ∷ []) h = absurd (omega arith)
word_of_four (a ∷ b ∷ c ∷ []) h = absurd (omega arith)
word_of_four (a ∷ b ∷ c ∷ d ∷ rest) h = omega arith

-- ---- word by word: the first n words stand, and the bytes behind those of n words are left

pub record Filled (bytes words : List ℕ) (n : ℕ) : Type 0 where
  pub whole : length words ≡ words_size
  pub inside : 4 * n ≤ length bytes
  pub spelled : take n words ++ words_of (drop (4 * n) bytes) ≡ words_of bytes

pub filled_none : (bytes words : List ℕ) → length words ≡ words_size → Filled bytes words 0
filled_none bytes words e = record { whole = e; inside = omega arith; spelled = refl }

module _ {bytes words : List ℕ} {n : ℕ} (f : Filled bytes words n) where
  filled_next : (w : ℕ) → w ≡ word_at (drop (4 * n) bytes) → 4 * n + 4 ≤ length bytes → n < words_size → Filled bytes (set words n w) (n + 1)
  filled_next w e h k =
      let next : 4 * (n + 1) ≡ 4 * n + 4 = omega arith in
      record {
        whole = length-set words n w ∙ f.whole;
        inside = omega arith;
        spelled =
            rw (
              next,
              add-one n,
              take-suc-set words n w (omega (arith, f.whole)),
              append_assoc,
              ← drop-drop 4 (4 * n) bytes,
              e,
              ← next_word (drop (4 * n) bytes) (simp length-drop (omega arith)),
            )
            f.spelled;
      }

  -- the word of the next of the k chunks of the bytes
  pub filled_more : (chunks : List (List ℕ)) (k w : ℕ) → chunks ≡ first_chunks 4 k bytes → 4 * k ≤ length bytes → n < k
      → w ≡ from_le_bytes w32 (get_or chunks n []) → n < words_size → Filled bytes (set words n w) (n + 1)
  filled_more chunks k w e h l is m =
      let chunk : get_or chunks n [] ≡ take 4 (drop (4 * n) bytes) = ap (λ (c : List (List ℕ)). get_or c n []) e ∙ chunk_at k n bytes [] l in
      let word : from_le_bytes w32 (take 4 (drop (4 * n) bytes)) ≡ word_at (drop (4 * n) bytes) =
      word_of_four (drop (4 * n) bytes) (simp length-drop (omega arith)) in
      filled_next w (is ∙ ap (from_le_bytes w32) chunk ∙ word) (omega arith) m

  -- where no byte is left, and where some are but no four
  pub spelled_all : length bytes ≤ 4 * n → n ≤ words_size → Spelled bytes words n
  spelled_all h k =
      record {
        whole = f.whole;
        within = k;
        words_are =
            sym (append-nil (take n words))
            ∙ ap (λ (l : List ℕ). take n words ++ l) (sym (no_word (drop (4 * n) bytes) (simp length-drop (omega arith))))
            ∙ f.spelled;
      }

  pub spelled_last : 4 * n < length bytes → length bytes < 4 * n + 4 → n < words_size → Spelled bytes (set words n 0) (n + 1)
  spelled_last h l k =
      record {
        whole = length-set words n 0 ∙ f.whole;
        within = omega (arith, k);
        words_are =
            rw (
              add-one n,
              take-suc-set words n 0 (omega (arith, f.whole)),
              ← left_over (drop (4 * n) bytes) (simp length-drop (omega arith)) (simp length-drop (omega arith)),
            )
            f.spelled;
      }

-- ---- their number: a fourth of the bytes', rounded up

pub many_words : (l : List ℕ) → length l ≤ 4 * length (words_of l)
unfolding words_of
many_words [] = omega arith
many_words (a ∷ []) = omega arith
many_words (a ∷ b ∷ []) = omega arith
many_words (a ∷ b ∷ c ∷ []) = omega arith
many_words (a ∷ b ∷ c ∷ d ∷ rest) = omega (arith, many_words rest)

-- ---- more than `most_bytes`: too many words, whatever they are

too_many : (ws : List ℕ) (budget : ℕ) → most_words < length ws → read ws budget ≡ refused 1 0
unfolding read then first_of
too_many ws budget h = rw (lt-ltb most_words (length ws) h, read, first_of)

enough : (most : ℕ) (bytes : List ℕ) (budget : ℕ) → 4 * most_words < most → read (words_of bytes) budget ≡ read (words_of (take most bytes)) budget
enough most bytes budget h = go (dec_le (length bytes) most)
  where
    go : Dec (length bytes ≤ most) → read (words_of bytes) budget ≡ read (words_of (take most bytes)) budget
    go (yes l) = ap (λ (bs : List ℕ). read (words_of bs) budget) (sym (take_all most bytes l))
    go (no n) =
        let part = take most bytes in
        too_many (words_of bytes) budget (omega (arith, many_words bytes))
        ∙ sym (too_many (words_of part) budget (omega (arith, many_words part, length-take-le most bytes (omega arith))))

-- however long the input, the words of its first `most_bytes` bytes are read as all of them are
pub read_enough : (bytes : List ℕ) (budget : ℕ) → read (words_of bytes) budget ≡ read (words_of (take most_bytes bytes)) budget
read_enough bytes budget = enough most_bytes bytes budget (lit< tt)

-- and so the answer is that to all of them
pub answer_enough : AnswerEnough
unfolding answer
answer_enough bytes budget = ap (λ (a : Answer Model). then a (walked budget)) (read_enough bytes budget)
