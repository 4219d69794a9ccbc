-- The definitions at worked examples.
use Rattle.std.proofs.Common.{◌≡◌, List, [], ◌∷◌, ◌++◌, refl, rules}
use Rattle.std.specs.Prelude.{ℕ, codes}
use Rattle.gw_chunk.specs.declared.error.ChunkError.TheVariants.{BadLine, TooLarge, DataEnd, Trailer}
use Rattle.gw_chunk.specs.declared.position.Position.TheVariants.{Content}
use Rattle.gw_chunk.specs.Bytes.{crlf, is_token_byte}
use Rattle.gw_chunk.specs.Chunked.{IsChunked, BadChunk, size_text, coded}
use Rattle.gw_chunk.specs.Position.{first, after}
use Rattle.gw_chunk.proofs.TextLaws.{has_text, fails_bad}

abbrev upload : List ℕ
upload =
    codes "4;x=y" ++ crlf ++ codes "Wiki" ++ crlf ++ codes "5" ++ crlf ++ codes "pedia" ++ crlf
    ++ codes "0" ++ crlf ++ codes "T: 1" ++ crlf ++ crlf

upload_is_chunked : IsChunked upload (codes "Wikipedia")
unfolding is_token_byte
upload_is_chunked = has_text upload (codes "Wikipedia") (record { place = refl; out = refl; inside = search rules })

five_bytes : BadChunk (codes "4" ++ crlf ++ codes "WikiX" ++ crlf) DataEnd
five_bytes = fails_bad (codes "4" ++ crlf ++ codes "WikiX" ++ crlf) DataEnd refl

bare_line_feed : BadChunk (codes "5" ++ 10 ∷ []) BadLine
bare_line_feed = fails_bad (codes "5" ++ 10 ∷ []) BadLine refl

return_in_extension : BadChunk (codes "5;a" ++ 13 ∷ codes "b" ++ crlf) BadLine
return_in_extension = fails_bad (codes "5;a" ++ 13 ∷ codes "b" ++ crlf) BadLine refl

signed_size : BadChunk (codes "+5" ++ crlf) BadLine
signed_size = fails_bad (codes "+5" ++ crlf) BadLine refl

too_large : BadChunk (codes "1000000000000" ++ crlf) TooLarge
too_large = fails_bad (codes "1000000000000" ++ crlf) TooLarge refl

largest : after first (codes "ffffffffffff" ++ crlf) ≡ Content 0xffff_ffff_ffff 0xffff_ffff_ffff
largest = refl

no_colon : BadChunk (codes "0" ++ crlf ++ codes "T 1" ++ crlf) Trailer
unfolding is_token_byte
no_colon = fails_bad (codes "0" ++ crlf ++ codes "T 1" ++ crlf) Trailer refl

written : coded (codes "Wikipedia") ≡ codes "9" ++ crlf ++ codes "Wikipedia" ++ crlf ++ codes "0" ++ crlf ++ crlf
written = refl

written_nothing : coded [] ≡ codes "0" ++ crlf ++ crlf
written_nothing = refl

whole_piece : size_text 8192 ≡ codes "2000"
whole_piece = refl

rest_of_20000 : size_text 3616 ≡ codes "e20"
rest_of_20000 = refl
