-- Digests that the standard and an independent implementation give, so that a wrong constant, order or count in the
-- definition does not check.
use Rattle.std.proofs.Common.{◌≡◌, [], ◌∷◌, codes, replicate, refl}
use Rattle.cache_words.specs.Blake.{mixed, mix, round, rounds, block_words, compress, hash_after, blake2b_128}

pub digest_of_abc : blake2b_128 (codes "abc") ≡ 207 ∷ 74 ∷ 183 ∷ 145 ∷ 198 ∷ 43 ∷ 141 ∷ 43 ∷ 33 ∷ 9 ∷ 201 ∷ 2 ∷ 117 ∷ 40 ∷ 120 ∷ 22 ∷ []
unfolding mixed mix round rounds block_words compress hash_after blake2b_128
digest_of_abc = refl

-- nothing at all is one block of zeros
pub digest_of_nothing : blake2b_128 [] ≡ 202 ∷ 230 ∷ 105 ∷ 65 ∷ 217 ∷ 239 ∷ 189 ∷ 64 ∷ 78 ∷ 77 ∷ 136 ∷ 117 ∷ 142 ∷ 166 ∷ 118 ∷ 112 ∷ []
unfolding mixed mix round rounds block_words compress hash_after blake2b_128
digest_of_nothing = refl

-- one whole block, which is the last
pub digest_of_block : blake2b_128 (replicate 128 97) ≡ 18 ∷ 113 ∷ 210 ∷ 142 ∷ 115 ∷ 26 ∷ 251 ∷ 87 ∷ 189 ∷ 251 ∷ 166 ∷ 189 ∷ 175 ∷ 53 ∷ 1 ∷ 190 ∷ []
unfolding mixed mix round rounds block_words compress hash_after blake2b_128
digest_of_block = refl

-- a block, and the last one
pub digest_of_two_blocks : blake2b_128 (replicate 200 97) ≡ 214 ∷ 58 ∷ 70 ∷ 148 ∷ 30 ∷ 224 ∷ 68 ∷ 159 ∷ 209 ∷ 167 ∷ 41 ∷ 32 ∷ 5 ∷ 224 ∷ 128 ∷ 150 ∷ []
unfolding mixed mix round rounds block_words compress hash_after blake2b_128
digest_of_two_blocks = refl
