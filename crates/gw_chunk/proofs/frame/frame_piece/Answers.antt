use Rattle.std.proofs.Common.{◌≡◌, ◌+◌, ℕ, drop, slice_range, ◌++◌, subst, ◌∙◌, arith, refl}
use Rattle.std.proofs.lemmas.List.{length-map, length-take}
use Rattle.std.specs.Char.{digit_char}
use Rattle.std.specs.Int.Digits.{digits_of}
use Rattle.gw_chunk.specs.Chunked.{coded_piece, size_text}
use Rattle.gw_chunk.proofs.Framing.{length-writes, puts, sized, piece_put, behind_put, before_put}
use Rattle.gw_chunk.proofs.Sizes.{four_digits}
use Rattle.gw_chunk.proofs.frame.frame_piece.Goals as goal

pub put_size-requires : goal.put_size-requires
put_size-requires c =
    let short = four_digits c.args.len c.requires.most in
    let long = length-writes c.args.buffer.now c.put_line_end.new.buffer c.put_line_end-2.new.buffer c.args.len 4 6 c.requires.room
    c.put_line_end.ensures c.put_line_end-2.ensures refl in
    omega (arith, length-take 4 c.put_line_end-2.new.buffer)

pub returns-clause-text : goal.returns-clause-text
returns-clause-text c =
    let size = length-map (digits_of 16 c.args.len) digit_char in
    let all = puts c.args.buffer.now c.put_line_end.new.buffer c.put_line_end-2.new.buffer c.put_size.new.buffer (size_text c.args.len)
    c.put_size.result c.args.len 4 6 c.requires.room refl c.put_line_end.ensures c.put_line_end-2.ensures c.put_size.ensures.text (omega arith) in
    let end : 6 + c.args.len + 2 ≡ 6 + (c.args.len + 2) = omega arith in
    let T : ℕ → Type 0 =
    λ e. slice_range (c.put_size.new.buffer ++ drop 4 c.put_line_end-2.new.buffer) c.put_size.result e
    ≡ coded_piece (slice_range c.args.buffer.now 6 (6 + c.args.len)) in
    subst T end (piece_put _ _ _ _ _ _ _ _ _ all ∙ sized c.args.buffer.now c.args.len c.requires.room)

pub returns-clause-before : goal.returns-clause-before
returns-clause-before c =
    let size = length-map (digits_of 16 c.args.len) digit_char in
    let all = puts c.args.buffer.now c.put_line_end.new.buffer c.put_line_end-2.new.buffer c.put_size.new.buffer (size_text c.args.len)
    c.put_size.result c.args.len 4 6 c.requires.room refl c.put_line_end.ensures c.put_line_end-2.ensures c.put_size.ensures.text (omega arith) in
    before_put _ _ _ _ _ _ _ _ _ all

pub returns-clause-behind : goal.returns-clause-behind
returns-clause-behind c =
    let size = length-map (digits_of 16 c.args.len) digit_char in
    let all = puts c.args.buffer.now c.put_line_end.new.buffer c.put_line_end-2.new.buffer c.put_size.new.buffer (size_text c.args.len)
    c.put_size.result c.args.len 4 6 c.requires.room refl c.put_line_end.ensures c.put_line_end-2.ensures c.put_size.ensures.text (omega arith) in
    let end : 6 + c.args.len + 2 ≡ 6 + (c.args.len + 2) = omega arith in
    let T : ℕ → Type 0 =
    λ e. drop e (c.put_size.new.buffer ++ drop 4 c.put_line_end-2.new.buffer) ≡ drop e c.args.buffer.now in
    subst T end (behind_put _ _ _ _ _ _ _ _ _ all)
