-- What the stages of coding share with their callers. Assumes nothing.
pub use Rattle.code_stages.specs.Stages.{hand_on, Where, Ready}
