-- A memory under ranges: what a question, a load and a store answer, and what a store leaves.
use Rattle.std.proofs.Common.{◌≡◌, ℕ, Bool, true, false, cond, ◌&&◌, List, Ok, Err, refl, ap, ◌∙◌}
use Rattle.memory.specs.declared.access.Right.TheVariants.{Read, Write}
use Rattle.memory.specs.declared.access.Size.{Size}
use Rattle.memory.specs.Access.{bytes_of}
use Rattle.memory.specs.Meaning.{Meaning, granted, loaded, word_at, put, store_answer, stored}
use Rattle.protection.specs.declared.range.Range.{Range}
use Rattle.protection.specs.Taking.{protected, allowed}
use Rattle.protection.proofs.Allowing.{granted_protected}

cond_both : {X : Type 0} (p q : Bool) (x y : X) → cond (p && q) x y ≡ cond q (cond p x y) y
cond_both true q x y = refl
cond_both false true x y = refl
cond_both false false x y = refl

module _ (ranges : List Range) (m : Meaning) (a : ℕ) (size : Size) where
  pub loaded_protected : loaded (protected ranges m) a size ≡ cond (allowed ranges Read a (bytes_of size)) (loaded m a size) (Err (record { address = a }))
  loaded_protected =
      ap (λ t. cond t (Ok (word_at m a (bytes_of size))) (Err (record { address = a }))) (granted_protected ranges m Read a (bytes_of size)) ∙ cond_both (granted m Read a (bytes_of size)) (allowed ranges Read a (bytes_of size)) _ _

  pub store_answer_protected : store_answer (protected ranges m) a size ≡ cond (allowed ranges Write a (bytes_of size)) (store_answer m a size) (Err (record { address = a }))
  store_answer_protected =
      ap (λ t. cond t (Ok tt) (Err (record { address = a }))) (granted_protected ranges m Write a (bytes_of size)) ∙ cond_both (granted m Write a (bytes_of size)) (allowed ranges Write a (bytes_of size)) _ _

  pub stored_protected : (v : ℕ) → stored (protected ranges m) a size v ≡ protected ranges (cond (allowed ranges Write a (bytes_of size)) (stored m a size v) m)
  stored_protected v =
      ap (λ t. cond t (protected ranges (put m a (bytes_of size) v)) (protected ranges m)) (granted_protected ranges m Write a (bytes_of size)) ∙ cases (granted m Write a (bytes_of size)) (allowed ranges Write a (bytes_of size))
    where
      cases : (p q : Bool) → cond (p && q) (protected ranges (put m a (bytes_of size) v)) (protected ranges m) ≡ protected ranges (cond q (cond p (put m a (bytes_of size) v) m) m)
      cases true true = refl
      cases true false = refl
      cases false true = refl
      cases false false = refl
