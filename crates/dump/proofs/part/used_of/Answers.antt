-- D rows of the widest are few bytes.
use Rattle.words.specs.Prelude.{ℕ, ◌+◌, ◌-◌, min, ap, ◌∙◌, arith}
use Rattle.images.specs.{Layout.dump_bytes}
use Rattle.dump.proofs.{Whole.few_bytes}
use Rattle.dump.proofs.part.used_of.Goals as goal

pub overflow_mul-body_words : goal.overflow_mul-body_words
overflow_mul-body_words c = omega (arith, c.body_words.ensures, few_bytes c.args.slots c.args.depth c.requires.0 c.requires.1)

pub overflow_add-body_words : goal.overflow_add-body_words
overflow_add-body_words c = omega (arith, c.body_words.ensures, few_bytes c.args.slots c.args.depth c.requires.0 c.requires.1)

pub returns : goal.returns
unfolding dump_bytes
returns c =
    let few = few_bytes c.args.slots c.args.depth c.requires.0 c.requires.1 in (
      c.clip.ensures ∙ ap (λ (n : ℕ). min c.args.most (256 + n - c.args.at)) c.body_words.ensures,
      λ some. omega (arith, some, c.clip.ensures, c.body_words.ensures, few),
    )
