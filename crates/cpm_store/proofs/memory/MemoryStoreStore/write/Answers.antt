use Rattle.std.proofs.Common.{ap, ◌∙◌}
use Rattle.cpm_store.specs.Files.{StoreFiles, file_at}
use Rattle.cpm_store.proofs.memory.MemoryStoreStore.write.Goals as goal

pub returns-in-Err-clause-others : goal.returns-in-Err-clause-others
returns-in-Err-clause-others c = λ other apart. ap (λ (f : StoreFiles). f other) c.in-Err.ensures.kept ∙ ap (λ m. file_at m other) c.is_failing.ensures.files

pub returns-in-Err-clause-missed : goal.returns-in-Err-clause-missed
returns-in-Err-clause-missed c = λ other apart. ap (λ (f : StoreFiles). f other) c.in-Err.ensures.kept ∙ ap (λ m. file_at m other) c.is_failing.ensures.files
