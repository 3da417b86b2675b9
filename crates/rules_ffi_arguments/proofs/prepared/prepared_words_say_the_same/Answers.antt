use Rattle.rules_ffi_arguments.proofs.Readied.{right_are_prepared, say_the_same}
use Rattle.rules_ffi_arguments.proofs.prepared.prepared_words_say_the_same.Goals as goal

pub returns : goal.returns
returns c = record {
  are_prepared = λ words h. right_are_prepared words h;
  say_the_same = λ words text e. say_the_same words text e;
}
