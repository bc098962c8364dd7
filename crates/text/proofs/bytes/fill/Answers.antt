-- `text::bytes::fill` meets its contract: a word for each chunk of four bytes, and one more where bytes are left over. Assumes nothing.
use Prim.Native.Nat.{ℕ, ◌/◌, ◌%◌}
use mathlib.Core.Path.{◌≡◌, sym}
use mathlib.Core.List.{List}
use native.Mathlib.Omega.{arith}
use Rattle.std.proofs.lemmas.Bool.{eqb-true, eqb-false}
use lib.ListN.{length}
use Rattle.std.specs.Simd.{first_chunks}
use Rattle.text.proofs.Words.{filled_more, spelled_all, spelled_last}
use Rattle.text.proofs.bytes.fill.Goals as goal

pub loop-i-preserved : goal.loop-i-preserved
loop-i-preserved c =
    let bytes = c.args.bytes.now in
    let chunks : List (List ℕ) = c.as_chunks.result.0.now in
    let front : chunks ≡ first_chunks 4 (length bytes / 4) bytes = c.as_chunks.ensures.front in
    let many : length chunks ≡ length bytes / 4 = c.as_chunks.ensures.front_len in
    filled_more c.loop-i.invariant chunks (length bytes / 4) _ front (omega arith) (omega arith) c.from_le_bytes.ensures (omega (arith, c.requires))

pub returns-then-is_empty : goal.returns-then-is_empty
returns-then-is_empty c =
    let bytes = c.args.bytes.now in
    let many : length c.as_chunks.result.0.now ≡ length bytes / 4 = c.as_chunks.ensures.front_len in
    let left : length c.as_chunks.result.1.now ≡ length bytes % 4 = c.as_chunks.ensures.back_len in
    let none : length c.as_chunks.result.1.now ≡ 0 = eqb-true _ 0 (sym c.if-is_empty.ensures) in
    let all : c.loop-i.i ≡ length c.as_chunks.result.0.now = omega arith in
    spelled_all (rw all at c.loop-i.invariant) (omega arith) (omega (arith, c.requires))

pub returns : goal.returns
returns c =
    let bytes = c.args.bytes.now in
    let many : length c.as_chunks.result.0.now ≡ length bytes / 4 = c.as_chunks.ensures.front_len in
    let left : length c.as_chunks.result.1.now ≡ length bytes % 4 = c.as_chunks.ensures.back_len in
    let some : length c.as_chunks.result.1.now ≡ 0 → ⊥ = eqb-false _ 0 (sym c.if-is_empty.ensures) in
    let all : c.loop-i.i ≡ length c.as_chunks.result.0.now = omega arith in
    spelled_last (rw all at c.loop-i.invariant) (omega arith) (omega arith) (omega (arith, c.requires))
