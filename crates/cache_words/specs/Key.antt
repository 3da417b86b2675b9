-- What a key is: the hash of what it names, the variance of the response, and a tag of its owner's.
use Rattle.std.specs.Prelude.{ℕ, List, ◌++◌, Option, Some, None, codes}
use Rattle.hex.specs.Hex.{encode_lower}
use Rattle.cache_words.specs.Blake.{blake2b_128}

-- a key as a cache keeps it: two hashes of 16 bytes, the second where a response has variants, and the tag's text
pub record Key : Type 0 where
  pub primary : List ℕ
  pub variance : Option (List ℕ)
  pub user_tag : List ℕ

-- a key as it is requested: the bytes that it names, and a hash in place of theirs, if any
pub record CacheKeyValue : Type 0 where
  pub primary : List ℕ
  pub primary_bin_override : Option (List ℕ)
  pub variance : Option (List ℕ)
  pub user_tag : List ℕ

-- the override, else the hash of the bytes
abbrev pub primary_hash : Option (List ℕ) → List ℕ → List ℕ
primary_hash None bytes = blake2b_128 bytes
primary_hash (Some hash) bytes = hash

-- the key that a cache keeps
abbrev pub key_of : CacheKeyValue → Key
key_of k = record {
  primary = primary_hash k.primary_bin_override k.primary;
  variance = k.variance;
  user_tag = k.user_tag;
}

-- the hash that distinguishes variants too: without a variance the primary one, else that of both. The tag is not in it
abbrev pub combined_of : List ℕ → Option (List ℕ) → List ℕ
combined_of primary None = primary
combined_of primary (Some variance) = blake2b_128 (primary ++ variance)

abbrev pub combined : Key → List ℕ
combined k = combined_of k.primary k.variance

-- a key for people to read: the hashes in lower-case hex, then the tag
abbrev pub shown_of : List ℕ → Option (List ℕ) → List ℕ → List ℕ
shown_of primary None tag = encode_lower primary ++ (codes ", user_tag: " ++ tag)
shown_of primary (Some variance) tag =
    encode_lower primary ++ (codes ", variance: " ++ (encode_lower variance ++ (codes ", user_tag: " ++ tag)))

abbrev pub shown : Key → List ℕ
shown k = shown_of k.primary k.variance k.user_tag
