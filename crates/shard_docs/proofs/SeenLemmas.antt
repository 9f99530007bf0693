-- Names as keys of the set, and as the texts that they are.
use Rattle.std.proofs.Common.{◌≡◌, ℕ, List, [], ◌∷◌, ◌++◌, Bool, true, false, ◌&&◌, ◌||◌, cond, map, String, string_bytes, refl, ap, ◌∙◌}
use Rattle.std.proofs.lemmas.List.{map_push}
use Rattle.std.specs.List.{list_any}
use Rattle.std.specs.Str.{bytes_eq}
use Rattle.std.specs.declared.alloc.Global.{Global}
use Rattle.shard_docs.specs.Seen.{Name, has_name, with_name}

abbrev pub Key : Type 0
Key = String Global × String Global

abbrev pub name_of : Key → Name
name_of key = (string_bytes key.0, string_bytes key.1)

-- a key is among the keys exactly where its name is among their names
pub key_among : (index id : List ℕ) (keys : List Key) → list_any (λ k. bytes_eq index (string_bytes k.0) && bytes_eq id (string_bytes k.1)) keys ≡ has_name index id (map name_of keys)
key_among index id [] = refl
key_among index id (key ∷ keys) = ap (λ b. (bytes_eq index (string_bytes key.0) && bytes_eq id (string_bytes key.1)) || b) (key_among index id keys)

-- the names after a key was added, if it was new
pub names_with : (index id : List ℕ) (keys : List Key) (key : Key) → name_of key ≡ (index, id)
    → map name_of (cond (list_any (λ k. bytes_eq index (string_bytes k.0) && bytes_eq id (string_bytes k.1)) keys) keys (keys ++ key ∷ [])) ≡ with_name index id (map name_of keys)
names_with index id keys key named =
    ap (λ b. map name_of (cond b keys (keys ++ key ∷ []))) (key_among index id keys) ∙ either (has_name index id (map name_of keys))
  where
    either : (b : Bool) → map name_of (cond b keys (keys ++ key ∷ [])) ≡ cond b (map name_of keys) (map name_of keys ++ (index, id) ∷ [])
    either true = refl
    either false = map_push name_of keys key ∙ ap (λ name. map name_of keys ++ name ∷ []) named
